-- `unfolding opened` opens every definition of specs/ that computes, for a fact that is closed by computing it.
use Rattle.files.proofs.Opened.{opened as files-opened}
use Rattle.numerals.proofs.Opened.{opened as numerals-opened}
use Rattle.lines.specs.Lines.{split, joined, field_read, each, fields_of, line_read, without_return, ended, lines_of, table_read, field_text, line_text, lines_text}
use Rattle.lines.specs.Calls.{fields_fit, import_refusals, table_file, imported_file, import_call, exported_lines, export_call}

unfoldable pub opened : Unit {0}
unfolding files-opened numerals-opened split joined field_read each fields_of line_read without_return ended lines_of table_read field_text line_text lines_text fields_fit import_refusals table_file imported_file import_call exported_lines export_call
opened = tt

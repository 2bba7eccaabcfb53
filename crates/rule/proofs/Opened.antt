-- `unfolding opened` opens every definition of specs/ that computes, for a fact that is closed by computing it.
use Rattle.tables.proofs.Opened.{opened as tables-opened}
use Rattle.numerals.proofs.Opened.{opened as numerals-opened}
use Rattle.rule.specs.Tokens.{words, signs, word_in, sign_in, number_from, first_token, tokens_after, tokens_of, opens_fit}
use Rattle.rule.specs.Condition.{parts, froms_deep}
use Rattle.rule.specs.Reader.{expect, read_number, read_letter, read_comparison, read_value, read_from, start_list, start_value, start, read_truth, read_truth_test, truth_tested, read, reading, read_all}
use Rattle.rule.specs.Names.{limits_fit, nearest, value_in, test_in, from_in, rule_in}
use Rattle.rule.specs.Parts.{parts_from, rules_of}
use Rattle.rule.specs.Sum.{entry_sum, sum_fits}
use Rattle.rule.specs.Meaning.{meaning, judged}
use Rattle.rule.specs.Calls.{condition_of, rule_of, reading_refusals, read_call, judge_refusals, judge_call}

unfoldable pub opened : Unit {0}
unfolding tables-opened numerals-opened words signs word_in sign_in number_from first_token tokens_after tokens_of opens_fit parts froms_deep expect read_number read_letter read_comparison read_value read_from start_list start_value start read_truth read_truth_test truth_tested read reading read_all limits_fit nearest value_in test_in from_in rule_in parts_from rules_of entry_sum sum_fits meaning judged condition_of rule_of reading_refusals read_call judge_refusals judge_call
opened = tt

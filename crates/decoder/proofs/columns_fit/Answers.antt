use Rattle.std.proofs.Common.{◌∙◌, rules, tests}
use Rattle.std.proofs.lemmas.Iterator.{YieldsList-from_slice}
use Rattle.std.proofs.lemmas.Iterator.Search.{all_from_yields_List}
use Rattle.tables.specs.Bytes.{between}
use Rattle.tables.specs.Tables.{most_columns}
use Rattle.decoder.proofs.Decoding.{list_all_is}
use Rattle.decoder.proofs.columns_fit.Goals as goal

pub returns : goal.returns
returns c =
    all_from_yields_List (between 1 most_columns) _ _ _ c.all.ensures.ran (YieldsList-from_slice c.args.columns.now c.iter.ensures.rest) (λ x b q k. search (rules, tests))
    ∙ list_all_is (between 1 most_columns) c.args.columns.now

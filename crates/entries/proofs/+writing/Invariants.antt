-- Each member asks for the parts of a rule, and writes the entries of its card; the measure goes by what is left of the parts.
use Rattle.std.proofs.Common.{◌+◌, ◌*◌, ◌-◌}
use Rattle.rule.specs.Names.{most_parts}
use Rattle.entries.proofs.+writing.Given as goal

abbrev pub decreases-write_exists : goal.decreases-write_exists
decreases-write_exists l = 4 * (most_parts - l.s) + 1

abbrev pub decreases-write_list : goal.decreases-write_list
decreases-write_list l = 4 * (most_parts - l.s) + 1

abbrev pub decreases-write_pair : goal.decreases-write_pair
decreases-write_pair l = 4 * (most_parts - l.left.part) + 1

abbrev pub decreases-write_part : goal.decreases-write_part
decreases-write_part l = 4 * (most_parts - l.s)

abbrev pub decreases-write_truth : goal.decreases-write_truth
decreases-write_truth l = 4 * (most_parts - l.s) + 2

abbrev pub decreases-write_join : goal.decreases-write_join
decreases-write_join l = 4 * (most_parts - l.left.part) + 2

abbrev pub decreases-write_unary : goal.decreases-write_unary
decreases-write_unary l = 4 * (most_parts - l.inner.part) + 3

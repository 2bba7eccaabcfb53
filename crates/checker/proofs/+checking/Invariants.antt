-- The entries from s up to e are one that fits: by its kind, of two inner ones, of one, or of none.
use Rattle.std.proofs.Common.{◌+◌, ◌-◌, ◌*◌}
use Rattle.checker.proofs.+checking.Given as goal

abbrev pub decreases-check_entry : goal.decreases-check_entry
decreases-check_entry l = 2 * (l.e - l.s) + 1

abbrev pub decreases-check_pair : goal.decreases-check_pair
decreases-check_pair l = 2 * (l.e - l.s)

abbrev pub decreases-check_rows : goal.decreases-check_rows
decreases-check_rows l = 2 * (l.e - l.s)

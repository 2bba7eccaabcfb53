-- What holds of every value and every table of a condition. Proofs carry such facts; the contract of a public call cites nothing of this file.
use Rattle.rule.specs.Condition.{Condition, Atom, Join, Apply, Exists, Listed}
use Rattle.rule.specs.declared.Test.{Test}
use Rattle.rule.specs.declared.Test.TheVariants.{Compare, Mark}
use Rattle.rule.specs.declared.FromClause.{FromClause}
use Rattle.rule.specs.declared.FromClause.TheVariants.{Single}

abbrev pub TestThroughout : {A : Type 0} → (A → Type 0) → Test A → Type 0
TestThroughout P (Compare op l r) = P l × P r
TestThroughout P (Mark m l) = P l

abbrev pub FromThroughout : {S : Type 0} → (S → Type 0) → FromClause S → Type 0
FromThroughout Q (Single s) = Q s

module _ {A S : Type 0} (P : A → Type 0) (Q : S → Type 0) where
  unfoldable pub Throughout : Condition A S → Type 0
  Throughout (Atom x) = TestThroughout P x
  Throughout (Join j a b) = Throughout a × Throughout b
  Throughout (Apply u a) = Throughout a
  Throughout (Exists f w) = FromThroughout Q f × Throughout w
  Throughout (Listed q op l s f w) = P l × P s × FromThroughout Q f × Throughout w

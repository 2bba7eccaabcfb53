-- That a list of numbers rises, by computing it.
use mathlib.Core.Bool.{Bool, true, ◌&&◌}
use mathlib.Core.List.{List, [], ◌∷◌, IsChain}
use Prim.Native.Nat.{ℕ, ◌<◌}
use lib.Dec.{T, ltb, ltb→lt}
use Rattle.tables.proofs.Tests.{both}

-- whether a list rises
abbrev pub rises : List ℕ → Bool
rises [] = true
rises (a ∷ []) = true
rises (a ∷ (b ∷ l)) = ltb a b && rises (b ∷ l)

pub rising : (l : List ℕ) → T (rises l) → IsChain ◌<◌ l
rising [] t = IsChain.nil
rising (a ∷ []) t = IsChain.singleton a
rising (a ∷ (b ∷ l)) t = let (less, rest) = both (ltb a b) (rises (b ∷ l)) t in IsChain.cons-cons (ltb→lt a b less) (rising (b ∷ l) rest)

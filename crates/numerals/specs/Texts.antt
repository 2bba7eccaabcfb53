-- Texts as lists of bytes. Nothing here is said by a paper.
use Rattle.std.specs.Prelude.{Bool, true, false, List, [], ◌∷◌, ℕ}
use Prim.Native.Char.{code}
use Prim.Native.String.{String, [] as []ˢ, ◌∷◌ as ◌∷ˢ◌}

-- a quoted text as its bytes, so that a word can be written as the paper writes it
unfoldable pub bytes : String → List ℕ
bytes []ˢ = []
bytes (c ∷ˢ s) = code c ∷ bytes s

-- the longest run of bytes of one class that a text begins with
unfoldable pub take_while : (ℕ → Bool) → List ℕ → List ℕ
take_while p [] = []
take_while p (b ∷ bs) = elim (p b) [ true ↦ b ∷ take_while p bs | false ↦ [] ]

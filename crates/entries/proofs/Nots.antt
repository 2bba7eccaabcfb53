-- What stands under NOTs.
use Rattle.std.proofs.Common.{◌≡◌, refl, ap, subst, ◌∙◌, Bool, not, List, ℕ, ◌+◌, arith, get_or}
use Rattle.card.specs.declared.Interpretation.{Interpretation}
use Rattle.rule.specs.declared.Unary.TheVariants.{Not}
use Rattle.rule.specs.declared.Head.TheVariants.{UnaryHead}
use Rattle.names.specs.declared.RulePart.{RulePart}
use Rattle.parts.proofs.Parts.{is_unary}
use Rattle.translation.specs.Translation.{other}
use Rattle.entries.specs.declared.Under.{Under}
use Rattle.entries.specs.Code.{card_as, StandsUnder}
use Rattle.entries.proofs.Cards.{card_not}
use Rattle.entries.proofs.Writing.{unary_at}

module _ {p : List RulePart} {s : ℕ} {negate : Bool} {i : Interpretation} where
  pub under_none : StandsUnder p s negate i (record { part = s; negate = negate; interpretation = i })
  under_none = record { behind = omega arith; same = λ h. record { at = h; card_is = refl } }

  -- one NOT more
  pub under_more : {u : Under} (d : RulePart) → StandsUnder p s negate i u → (t : ℕ) → u.part ≡ t → (get_or p t d).head ≡ UnaryHead Not
      → StandsUnder p s negate i (record { part = t + 1; negate = not u.negate; interpretation = other u.interpretation })
  under_more {u} d stands t here head =
      let at = subst (λ t. StandsUnder p s negate i (record { part = t; negate = u.negate; interpretation = u.interpretation })) here stands in
      record {
        behind = omega (arith, at.behind);
        same = λ h.
            let y = at.same h in
            let x = is_unary p t y.at.rule y.at.stands d Not head in
            record {
              at = unary_at y.at x;
              card_is = y.card_is ∙ ap (card_as u.negate u.interpretation) x.is ∙ card_not u.negate u.interpretation x.inner;
            };
      }

-- The marks of all gates as words: a word for each target, and in it a bit for each control mask.
use Rattle.std.specs.Prelude.{Bool, List, [], ◌∷◌, ℕ, ◌^◌, eqb, get_or}
use Rattle.std.specs.Int.Bits.{bit_or}
use Rattle.logic.specs.Lists.{along}
use Rattle.logic.specs.Bit.{bit_of}
use Rattle.gate.specs.Gates.{target_of, mask_of}
use Rattle.normal_forms.specs.Forms.{wires_of}
use Rattle.normal_forms.specs.words.Words.{clear_of, sleep_word, cancel_word}
use Rattle.normal_forms.specs.declared.masks.Masks.{Masks}

-- a word for each of the five targets
abbrev pub five : (ℕ → ℕ) → List ℕ
five f = f 0 ∷ f 1 ∷ f 2 ∷ f 3 ∷ f 4 ∷ []

-- no gate is marked
abbrev pub no_masks : Masks
no_masks = record { sleep = five (λ u. 0); cancel = five (λ u. 0) }

-- the marks after gate g
unfoldable pub stepped : ℕ → Masks → Masks
stepped g ms = record {
  sleep = five (λ u. sleep_word (wires_of g) (clear_of (wires_of g)) (target_of g) u (get_or ms.sleep u 0));
  cancel = five (λ u. cancel_word (mask_of g) (clear_of (2 ^ target_of g)) (target_of g) u (get_or ms.cancel u 0));
}

-- the marks after a list
abbrev pub masks_after : List ℕ → Masks
masks_after l = along stepped l no_masks

-- gate b is marked, by either kind of mark
unfoldable pub marked : Masks → ℕ → Bool
marked ms b = eqb (bit_of (mask_of b) (bit_or (get_or ms.sleep (target_of b) 0) (get_or ms.cancel (target_of b) 0))) 1

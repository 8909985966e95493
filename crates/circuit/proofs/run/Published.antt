-- Demand 2: a list of lawful gates gives what the published gate definitions give, gate after gate, forwards and backwards.
use mathlib.Core.Path.{◌≡◌, refl, ap, ◌∙◌}
use mathlib.Core.Bool.{Bool, true}
use mathlib.Core.List.{List, [], ◌∷◌}
use Prim.Native.Nat.{ℕ, ◌+◌, ◌*◌, ◌^◌, ◌≤◌, ◌<◌}
use native.Mathlib.Nat.{lt_of_lt_of_le}
use borrow.Author.Tests.{eqb-true}
use lib.Dec.{eqb, lit<}
use lib.Pow.{pow_mono}
use Rattle.logic.specs.Lists.{all_of, along, back}
use Rattle.logic.specs.Bit.{bit_of}
use Rattle.logic.proofs.Chain.{both_left, both_right}
use Rattle.logic.proofs.Below.{below}
use Rattle.gate.specs.Gates.{lawful, step}
use Rattle.gate.specs.Published.{published}
use Rattle.gate.proofs.Published.{as_published}
use Rattle.gate.proofs.Undo.{stay}
use Rattle.circuit.specs.run.Run.{forwards, backwards}
use Rattle.circuit.proofs.run.Reversal.{stays_back}
use Rattle.circuit.specs.run.Published.{with_bits, published_step, published_forwards, published_backwards}

-- a value of five wires is the one that has its bits
abbrev whole : ℕ → Bool
whole v = eqb v (with_bits (λ x. bit_of x v))

of_bits : (v : ℕ) (bits : ℕ → ℕ) → v < 32 → ((x : ℕ) → x < 5 → bit_of x v ≡ bits x) → v ≡ with_bits bits
of_bits v bits h same =
    let a = same 0 (lit< tt) in
    let b = same 1 (lit< tt) in
    let c = same 2 (lit< tt) in
    let d = same 3 (lit< tt) in
    let e = same 4 (lit< tt) in
    eqb-true v (with_bits (λ x. bit_of x v)) (below 32 whole refl v h) ∙ (λ i. a i + 2 * b i + 4 * c i + 8 * d i + 16 * e i)

module _ (k w : ℕ) (hk : k ≤ 3) (hw : w ≤ 5) where
  stepped : (b v : ℕ) → lawful k w b ≡ true → v < 2 ^ w → step b v ≡ published_step b v
  stepped b v h hv =
      of_bits (step b v) (published b v) (lt_of_lt_of_le (stay k w b v h hv) (pow_mono hw)) (as_published k w b v hk hw h hv)

  pub forwards_published : (gs : List ℕ) (v : ℕ) → all_of (lawful k w) gs ≡ true → v < 2 ^ w → forwards gs v ≡ published_forwards gs v
  unfolding all_of along
  forwards_published [] v h hv = refl
  forwards_published (b ∷ gs) v h hv =
      let hb = both_left (lawful k w b) (all_of (lawful k w) gs) h in
      let hs = both_right (lawful k w b) (all_of (lawful k w) gs) h in
      forwards_published gs (step b v) hs (stay k w b v hb hv) ∙ ap (published_forwards gs) (stepped b v hb hv)

  pub backwards_published : (gs : List ℕ) (v : ℕ) → all_of (lawful k w) gs ≡ true → v < 2 ^ w → backwards gs v ≡ published_backwards gs v
  unfolding all_of back
  backwards_published [] v h hv = refl
  backwards_published (b ∷ gs) v h hv =
      let hb = both_left (lawful k w b) (all_of (lawful k w) gs) h in
      let hs = both_right (lawful k w b) (all_of (lawful k w) gs) h in
      stepped b (backwards gs v) hb (stays_back k w gs v hs hv) ∙ ap (published_step b) (backwards_published gs v hs hv)

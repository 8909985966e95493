-- Word by word, from the wires of the gate and the two patterns.
use Rattle.std.proofs.Common.{ℕ, ◌*◌, ◌/◌, ◌%◌, ◌^◌, ◌<◌, get_or, ap, ap₂, ◌∙◌, arith, rules}
use lib.Bits.{bit_or}
use Rattle.logic.proofs.Chains.{made_from_fn}
use Rattle.logic.proofs.Bits.{shifted_one}
use Rattle.gate.specs.Gates.{target_of}
use Rattle.normal_forms.specs.words.Words.{clear_of, sleep_word, cancel_word}
use Rattle.normal_forms.specs.masks.Words.{five, stepped}
use Rattle.normal_forms.proofs.masks.step.Goals as goal

pub returns : goal.returns
unfolding stepped
returns c =
    let t = ap (λ (x : ℕ). x / 32) c.from.ensures in
    let m = ap (λ (x : ℕ). x % 32) c.from-2.ensures in
    let h : target_of c.args.g < 64 = let p = c.requires in omega arith in
    let own = ap (λ (x : ℕ). 1 * 2 ^ x % 2 ^ 64) t ∙ shifted_one (target_of c.args.g) h in
    let wires = ap₂ bit_or m own in
    let apart = c.clear-apart.ensures ∙ ap clear_of wires in
    let free = c.clear-free.ensures ∙ ap clear_of own in
    let sleeping = made_from_fn _ (λ u. sleep_word (bit_or (c.from-2.result % 32) (1 * 2 ^ (c.from.result / 32) % 2 ^ 64)) c.clear-apart.result (c.from.result / 32) u (get_or c.args.marks.sleep u 0)) _ (λ u y q r. search rules) _ 5 0 c.from_fn.ensures.items in
    let cancelling = made_from_fn _ (λ u. cancel_word (c.from-2.result % 32) c.clear-free.result (c.from.result / 32) u (get_or c.args.marks.cancel u 0)) _ (λ u y q r. search rules) _ 5 0 c.from_fn-2.ensures.items in
    λ i. record {
      sleep = (sleeping ∙ (λ j. five (λ u. sleep_word (wires j) (apart j) (t j) u (get_or c.args.marks.sleep u 0)))) i;
      cancel = (cancelling ∙ (λ j. five (λ u. cancel_word (m j) (free j) (t j) u (get_or c.args.marks.cancel u 0)))) i;
    }

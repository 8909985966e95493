-- What is printed by what the call answers, how long it is, and that gates past the most that a list may have make no difference.
use mathlib.Core.Path.{◌≡◌, sym, ap, ◌∙◌}
use mathlib.Core.Bool.{Bool, true, false}
use mathlib.Core.List.{List}
use Prim.Native.Nat.{ℕ, ◌+◌, ◌-◌, ◌<◌, ◌≤◌}
use native.Mathlib.Omega.{arith}
use borrow.Author.Tests.{lt-leb}
use lib.ListN.{length, take, replicate, length-append}
use lib.Seq.{take_at}
use Rattle.logic.specs.Rules.{rule}
use Rattle.logic.specs.Words.{bytes}
use Rattle.logic.specs.Answers.{refused, answered}
use Rattle.logic.proofs.Answers.{refused_by, answered_is}
use Rattle.logic.proofs.Prefixes.{told_by}
use Rattle.text.proofs.pieces.Pieces.{place_short, decimal_short, spaced_short, hex_length}
use Rattle.reports.specs.refusal.Report.{refused_text}
use Rattle.peephole.specs.declared.windows.Prices.{Prices}
use Rattle.peephole.specs.windows.Windows.{cost_at, rewritten}
use Rattle.peephole.specs.windows.Listings.{sizes_ok, rewrite_code, rewrite_of, cleared, list_left}
use Rattle.peephole.proofs.windows.Promises.{code_sound, no_longer}
use Rattle.printed.specs.rewriting.Rewriting.{millions, count_line, rewritten_text, wires_in, window_in, prices_in, rewrite_text, TellingList, printed_rewriting}

pub millions_short : (n : ℕ) → length (millions n) ≤ 7
unfolding millions
millions_short n = simp length-append (omega (arith, place_short n 1000000, place_short n 100000, decimal_short n))

pub count_short : (word : List ℕ) (count c : ℕ) → length (count_line word count c) ≤ length word + 14
unfolding count_line
count_short word count c = simp length-append (omega (arith, spaced_short count, millions_short c))

pub text_short : (count c : ℕ) (p : Prices) (new : List ℕ) → length new ≤ 4096 → length (rewritten_text count c p new) ≤ 8300
unfolding rewritten_text
text_short count c p new h =
    simp length-append (omega (arith, count_short (bytes "before ") count c, count_short (bytes "after ") (length new) (cost_at p new), hex_length new))

module _ (head l : List ℕ) where
  abbrev n : ℕ
  n = wires_in head

  abbrev k : ℕ
  k = window_in head

  abbrev p : Prices
  p = prices_in head

  pub text_refused : (code : ℕ) → refused code ≡ rewrite_of n k p l → rewrite_text head l ≡ refused_text code
  unfolding rewrite_text
  text_refused code e = ap (λ a. printed_rewriting a p l (rewritten n k p l)) (sym e)

  -- the gates that are left are the rewritten list
  module _ (count : ℕ) (x : List ℕ) (e : answered count ≡ rewrite_of n k p l) (left : x ≡ list_left n k p l) where
    both_known : (rewrite_code n k l ≡ 0) × (count ≡ length (rewritten n k p l))
    unfolding rewrite_of
    both_known = answered_is (rewrite_code n k l) (length (rewritten n k p l)) count (sym e)

    x_is : x ≡ cleared (rewritten n k p l) (length l)
    unfolding list_left
    x_is = left ∙ rw both_known.0

    pub left_within : count ≤ length x
    left_within =
        let a = ap length x_is in
        let b = length-append (rewritten n k p l) (replicate {A = ℕ} (length l - length (rewritten n k p l)) 0) in
        omega (arith, both_known.1)

    pub left_is : take count x ≡ rewritten n k p l
    left_is =
        ap (take count) x_is
        ∙ take_at (rewritten n k p l) (replicate {A = ℕ} (length l - length (rewritten n k p l)) 0) count (sym both_known.1)

    pub left_few : count ≤ 4096
    left_few = omega (arith, both_known.1, no_longer n k p l both_known.0, (code_sound n k l both_known.0).short)

    pub text_rewritten : rewrite_text head l ≡ rewritten_text (length l) (cost_at p l) p (take count x)
    unfolding rewrite_text
    text_rewritten = ap (λ a. printed_rewriting a p l (rewritten n k p l)) (sym e) ∙ ap (rewritten_text (length l) (cost_at p l) p) (sym left_is)

-- a list with more gates than a list may have
long_list : (head l : List ℕ) → 4096 < length l → rewrite_text head l ≡ refused_text (rule (sizes_ok (wires_in head) (window_in head)) 32 33)
unfolding rewrite_of rewrite_code
long_list head l h = text_refused head l _ (rw (lt-leb (length l) 4096 h) (sym (refused_by _ (length (rewritten (wires_in head) (window_in head) (prices_in head) l)) (nonzero (sizes_ok (wires_in head) (window_in head))))))
  where
    nonzero : (t : Bool) → rule t 32 33 ≡ 0 → ⊥
    nonzero true e = omega arith
    nonzero false e = omega arith

pub telling_list : (room : ℕ) → 4096 < room → TellingList room
telling_list room h head l =
    told_by (λ (x : List ℕ). rewrite_text head x) (refused_text (rule (sizes_ok (wires_in head) (window_in head)) 32 33)) 4096 (long_list head) room h l

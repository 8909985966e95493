-- The parts of what is printed for a batch: one for each record, or a refusal alone.
use mathlib.Core.Path.{◌≡◌, refl, sym, ap, ◌∙◌}
use mathlib.Core.List.{List, [], ◌∷◌, map}
use Prim.Native.Nat.{ℕ, zero, suc, ◌<◌}
use native.Mathlib.Omega.{arith}
use borrow.Author.Tests.{eq-eqb, ne_eqb}
use lib.ListN.{length, get_or, length-map}
use Rattle.logic.specs.Lists.{total}
use Rattle.logic.proofs.Prefixes.{told_by}
use Rattle.batch.specs.cutting.Records.{records_of, count_of, job_at, all_cut}
use Rattle.batch.proofs.cutting.Joined.{too_long}
use Rattle.printed.specs.job_line.Lines.{line_of}
use Rattle.reports.specs.refusal.Report.{refused_text}
use Rattle.printed.specs.batch_parts.Parts.{batch_parts, part_at, TellingBatch}

part_of : {A B : Type 0} (f : A → B) (l : List A) (i : ℕ) (a : A) (b : B) → i < length l → get_or (map f l) i b ≡ f (get_or l i a)
part_of f [] i a b h = absurd (omega arith)
part_of f (x ∷ l) zero a b h = refl
part_of f (x ∷ l) (suc i) a b h = part_of f l i a b (omega arith)

-- by where the last record ends
module _ (jobs : List ℕ) (end : ℕ) (ends : end ≡ total length (records_of jobs)) where
  pub parts_whole : end ≡ length jobs → batch_parts jobs ≡ map line_of (records_of jobs)
  unfolding batch_parts all_cut
  parts_whole e = rw (eq-eqb (total length (records_of jobs)) (length jobs) (sym ends ∙ e))

  pub parts_short : (end ≡ length jobs → ⊥) → batch_parts jobs ≡ refused_text 26 ∷ []
  unfolding batch_parts all_cut
  parts_short n = rw (ne_eqb (total length (records_of jobs)) (length jobs) (λ e. n (ends ∙ e)))

  pub count_whole : end ≡ length jobs → length (batch_parts jobs) ≡ count_of jobs
  count_whole e = ap length (parts_whole e) ∙ length-map (records_of jobs) line_of

  pub line_whole : (i : ℕ) → end ≡ length jobs → i < count_of jobs → part_at jobs i ≡ line_of (job_at jobs i)
  line_whole i e h = ap (λ (ps : List (List ℕ)). get_or ps i []) (parts_whole e) ∙ part_of line_of (records_of jobs) i [] [] h

  pub line_short : (i : ℕ) → (end ≡ length jobs → ⊥) → i < length (batch_parts jobs) → part_at jobs i ≡ refused_text 26
  line_short i n h =
      let e = ap length (parts_short n) in
      let z : i ≡ 0 = omega arith in
      rw z (ap (λ (ps : List (List ℕ)). get_or ps 0 []) (parts_short n))

-- more bytes than a batch can have
long_batch : (jobs : List ℕ) → 1792 < length jobs → batch_parts jobs ≡ refused_text 26 ∷ []
unfolding batch_parts
long_batch jobs h = rw (too_long jobs h)

pub telling_batch : (room : ℕ) → 1792 < room → TellingBatch room
telling_batch room h = told_by batch_parts (refused_text 26 ∷ []) 1792 long_batch room h

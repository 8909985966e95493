-- The buffer begins with the job's bytes.
use Rattle.std.proofs.Common.{◌≡◌, refl, sym, ap, ◌∙◌, List, ◌++◌, ℕ, ◌≤◌, length, length-take-le, take, arith}
use lib.Seq.{take-length}
use Rattle.record.proofs.Long.{job_short}
use Rattle.problem.specs.order.View.{viewed}
use Rattle.scheduler.specs.slot.View.{held_len}
use Rattle.scheduler.proofs.slot.Slots.{posted}
use Rattle.scheduler.proofs.slot.SlotState.fresh.Goals as goal

room : (n : ℕ) (bytes : List ℕ) → n ≤ length bytes → length (take n bytes) ≡ n
room n bytes h = length-take-le n bytes h

in_front : (job held rest : List ℕ) → held ≡ job → held ++ rest ≡ take (length job) job ++ rest
in_front job held rest e = ap (λ (l : List ℕ). l ++ rest) (e ∙ sym (take-length job))

pub slice_bounds-bytes-end : goal.slice_bounds-bytes-end
slice_bounds-bytes-end c = job_short c.args.job.now c.requires

pub slice_bounds-copy_from_slice-end : goal.slice_bounds-copy_from_slice-end
slice_bounds-copy_from_slice-end c = sym (room (length c.args.job.now) _ (job_short c.args.job.now c.requires))

pub copy_from_slice-requires : goal.copy_from_slice-requires
copy_from_slice-requires c = room (length c.args.job.now) _ (job_short c.args.job.now c.requires)

pub returns-clause-slot : goal.returns-clause-slot
unfolding viewed
returns-clause-slot c =
    posted c.args.job.now c.requires _ _ refl refl (in_front c.args.job.now c.copy_from_slice.new.self _ c.copy_from_slice.ensures.after)
    c.first-at.ensures.0 c.first-at.ensures.1.0 c.first-at.ensures.1.1 refl

pub returns-clause-held_short : goal.returns-clause-held_short
unfolding held_len
returns-clause-held_short c = omega arith

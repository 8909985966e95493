-- Search and verify tied together: what a search finds passes with the measures found, and "none" is said exactly when no record of any
-- bytes passes. First among any gates lawful for the job, then among its own.
use mathlib.Core.Path.{◌≡◌, refl, sym, ap, ap₂, ◌∙◌, subst}
use mathlib.Core.Bool.{Bool, true, false}
use mathlib.Core.Logic.{⊎_elim, ◌↔◌}
use mathlib.Core.List.{List}
use Prim.Native.Nat.{ℕ, zero, suc, ◌≤◌, ◌<◌}
use native.Mathlib.Omega.{arith}
use borrow.Author.Tests.{ltb-true, ltb-false}
use lib.Dec.{ltb}
use lib.ListN.{length, get_or, get_or-eq_default}
use Rattle.logic.specs.Rules.{implies, bit}
use Rattle.logic.specs.Lists.{all_of, Among}
use Rattle.logic.specs.Answers.{refused, answered}
use Rattle.logic.proofs.Members.{member_at, all_member, among_all}
use Rattle.gate.specs.Gates.{lawful}
use Rattle.gate.proofs.Widen.{lawful_lt}
use Rattle.gate.proofs.Tables.{lawful_among}
use Rattle.table.specs.layouts.Layouts.{layout_ok, allowed}
use Rattle.table.specs.Rows.{realizes}
use Rattle.table.proofs.layouts.Layouts.{layout_is, layout_has, allowed_ok}
use Rattle.record.specs.JobRules.{job_code}
use Rattle.record.specs.job_fields.Jobs.{longer, most_controls, data_wires, ancillas, wires, free_layout, price_of, duration_of, rows, Bytes}
use Rattle.record.specs.circuit_rules.CircuitRules.{circuit_code}
use Rattle.record.specs.circuit_fields.Circuits.{marked, layout_of, gates, circuit_bytes}
use Rattle.record.proofs.circuit_rules.Written as Written
use Rattle.record.proofs.Kept.{sound_job, wires_within}
use Rattle.circuit.specs.measures.Measures.{measures_of}
use Rattle.verify.specs.Calls.{verify_of}
use Rattle.record.specs.pair_codes.Codes.{mark_fits, search_code}
use Rattle.verify.specs.Demand.{PassesAt, Passes, Timed}
use Rattle.verify.proofs.Codes.{circuit_parts}
use Rattle.verify.proofs.Pass.{passes_circuit, pass}
use Rattle.verify.proofs.Bounds.{lawful_here}
use Rattle.verify.proofs.Ready.{verified_ready}
use Rattle.parity.specs.Parity.{odd, table_parity}
use Rattle.parity.specs.odd_tables.Ends.{three_control_gates}
use Rattle.problem.specs.Demand.{Solves}
use Rattle.outcomes.specs.Outcomes.{GateSet, own_set, problem_over, record_of, Found, search_over, search_of}
use Rattle.outcomes.specs.Inner.{Lawfuls}
use Rattle.outcomes.proofs.Facts.{found_over, none_over, found_code, kept_code, own_kept, found_sound, returned, odd_solved}

-- a mark goes with a longer job
implies_same : (t : Bool) → implies t t ≡ true
implies_same true = refl
implies_same false = refl

bit_few : (t : Bool) → bit t ≤ 1
bit_few true = omega arith
bit_few false = omega arith

-- the fields of a record of the job
module _ (job : List ℕ) (sound : job_code job ≡ 0) (p : ℕ) (l : List ℕ) where
  abbrev bytes : List ℕ
  bytes = record_of job p l

  same_data : data_wires bytes ≡ data_wires job
  unfolding record_of
  same_data = Written.same_data (data_wires job) (ancillas job) (longer job) p l (sound_job job sound).spare

  same_ancillas : ancillas bytes ≡ ancillas job
  unfolding record_of
  same_ancillas = Written.same_ancillas (data_wires job) (ancillas job) (longer job) p l (sound_job job sound).spare

  same_mark : marked bytes ≡ longer job
  unfolding record_of
  same_mark = Written.same_mark (data_wires job) (ancillas job) (longer job) p l (sound_job job sound).spare

  same_layout : layout_of bytes ≡ p
  unfolding record_of
  same_layout = Written.same_layout (data_wires job) (ancillas job) (longer job) p l (sound_job job sound).spare

  same_gates : gates bytes ≡ l
  unfolding record_of
  same_gates = Written.same_gates (data_wires job) (ancillas job) (longer job) p l (sound_job job sound).spare

-- any gates lawful for the job
module _ (G : GateSet) (job : List ℕ) (sound : job_code job ≡ 0) (kept : Lawfuls job G.gates) where
  module _ (p : ℕ) (l : List ℕ) (s : Solves (problem_over G job) l p) where
    all_lawful : all_of (lawful (most_controls job) (wires job)) l ≡ true
    unfolding problem_over
    all_lawful = among_all (lawful (most_controls job) (wires job)) G.gates l kept s.admitted.gates_listed

    few : length l ≤ 12
    unfolding problem_over
    few = let a = s.admitted.gates_within in omega (arith, (sound_job job sound).limit)

    layout_ok_law : (p < 256) × (layout_ok (data_wires job) p ≡ true)
    unfolding problem_over
    layout_ok_law = allowed_ok (data_wires job) (free_layout job) p (sound_job job sound).width s.admitted.layout_listed

    -- the record of a solution keeps the circuit's rules
    circuit_kept : circuit_code (record_of job p l) ≡ 0
    unfolding record_of wires
    circuit_kept =
        let sj = sound_job job sound in
        Written.circuit_kept (data_wires job) (ancillas job) (longer job) p l sj.spare sj.width layout_ok_law.1 few all_lawful

    -- it passes
    pub solution_passes : PassesAt G.price G.duration job (record_of job p l)
    unfolding problem_over mark_fits
    solution_passes =
        let layout = same_layout job sound p l in
        let list = same_gates job sound p l in
        record {
          job_sound_law = sound;
          circuit_sound_law = circuit_kept;
          same_data = sym (same_data job sound p l);
          same_ancillas = sym (same_ancillas job sound p l);
          mark_fits_law = rw (same_mark job sound p l) (implies_same (longer job));
          laid_out =
              ap (allowed (data_wires job) (free_layout job)) layout ∙ layout_is (data_wires job) (free_layout job) p s.admitted.layout_listed;
          realized = ap₂ (realizes (data_wires job) (rows job)) layout list ∙ s.realizing;
          gates_within = rw list s.admitted.gates_within;
          cost_within = rw list s.cost_within;
          depth_within = rw list s.depth_within;
        }

    -- its gates are among those given
    pub solution_among : Among G.gates (gates (record_of job p l))
    unfolding problem_over
    solution_among = rw (same_gates job sound p l) s.admitted.gates_listed

    -- and its bytes are bytes
    pub solution_bytes : Bytes (record_of job p l)
    unfolding record_of circuit_bytes
    solution_bytes zero =
        let m = (sound_job job sound).spare in
        let b = bit_few (longer job) in
        ⊎_elim (λ (e : data_wires job ≡ 3). omega arith) (λ (e : data_wires job ≡ 4). omega arith) (sound_job job sound).width
    solution_bytes (suc zero) = layout_ok_law.0
    solution_bytes (suc (suc zero)) = let h = few in omega arith
    solution_bytes (suc (suc (suc i))) = by_length (ltb i (length l)) refl
      where
        by_length : (t : Bool) → ltb i (length l) ≡ t → get_or l i 0 < 256
        by_length true h =
            let m = member_at l i (ltb-true i (length l) h) in
            let ok = all_member (lawful (most_controls job) (wires job)) (get_or l i 0) l all_lawful m in
            omega (arith, lawful_lt (most_controls job) (wires job) (get_or l i 0) (wires_within job sound).1 ok)
        by_length false h = rw (get_or-eq_default l 0 (ltb-false i (length l) h)) (omega arith)

  -- a record that passes and is made of the gates given is a solution, its layout being a byte
  pub passes_solution : (c : List ℕ) → layout_of c < 256 → Among G.gates (gates c) → PassesAt G.price G.duration job c
      → Solves (problem_over G job) (gates c) (layout_of c)
  unfolding problem_over
  passes_solution c byte among s = record {
    admitted = record {
      gates_listed = among;
      gates_within = s.gates_within;
      layout_listed = layout_has (data_wires job) (free_layout job) (layout_of c) byte s.laid_out;
    };
    realizing = s.realized;
    cost_within = s.cost_within;
    depth_within = s.depth_within;
  }

  module _ (code : ℕ) (clear : code ≡ 0) where
    -- "None" exactly when no record of any bytes that is made of these gates passes.
    pub none_passes_over : (search_over G job code ≡ refused 14)
        ↔ ((c : List ℕ) → Bytes c → Among G.gates (gates c) → PassesAt G.price G.duration job c → ⊥)
    unfolding layout_of
    none_passes_over = (
      (λ h c small a s. (none_over G job code clear).0 h (gates c) (layout_of c) (passes_solution c (small 1) a s)),
      (λ f. (none_over G job code clear).1 (λ l p s. f (record_of job p l) (solution_bytes p l s) (solution_among p l s) (solution_passes p l s))),
    )

    -- What is found is a record that passes, made of these gates, with the measures found and the job's mark.
    module _ (f : Found) (h : search_over G job code ≡ answered f) where
      pub over_passes : PassesAt G.price G.duration job f.bytes
      over_passes =
          let w = found_over G job code clear f h in
          rw w.1.1.1.0 (solution_passes w.1.0 w.0 w.1.1.0.solution)

      pub over_among : Among G.gates (gates f.bytes)
      over_among =
          let w = found_over G job code clear f h in
          rw w.1.1.1.0 (solution_among w.1.0 w.0 w.1.1.0.solution)

      pub over_measures : f.measures ≡ measures_of G.price G.duration (gates f.bytes)
      over_measures =
          let w = found_over G job code clear f h in
          w.1.1.1.1 ∙ ap (measures_of G.price G.duration) (sym (ap gates w.1.1.1.0 ∙ same_gates job sound w.1.0 w.0))

      pub over_mark : marked f.bytes ≡ longer job
      over_mark = let w = found_over G job code clear f h in ap marked w.1.1.1.0 ∙ same_mark job sound w.1.0 w.0

-- the gates of a record that passes are lawful for the job
passes_among : (price duration : ℕ → ℕ) (job c : List ℕ) → PassesAt price duration job c → Among (own_set job).gates (gates c)
passes_among price duration job c s =
    let q = circuit_parts job c (passes_circuit price duration job c s) in
    lawful_among (most_controls job) (wires job) (wires_within job s.job_sound_law).1 (gates c)
    (lawful_here job c s.job_sound_law q.0 q.1.0 q.1.1)

-- "None" exactly when no record of any bytes passes.
pub none_passes : (job : List ℕ) → job_code job ≡ 0 → (room : ℕ) → 15 ≤ room
    → (search_of job room ≡ refused 14) ↔ ((c : List ℕ) → Bytes c → Passes job c → ⊥)
unfolding search_of
none_passes job sound room wide =
    let n = none_passes_over (own_set job) job sound (own_kept job) (search_code job room) (kept_code job sound room wide) in (
      (λ h c small s. n.0 h c small (passes_among (price_of job) (duration_of job) job c s) s),
      (λ f. n.1 (λ c small a s. f c small s)),
    )

module _ (job : List ℕ) (room : ℕ) (f : Found) (h : search_of job room ≡ answered f) where
  no_code : search_code job room ≡ 0
  unfolding search_of
  no_code = found_code (own_set job) job (search_code job room) f h

  -- What a search finds is a sound circuit with the job's n and m that passes,
  pub found_circuit : Passes job f.bytes
  unfolding search_of
  found_circuit = over_passes (own_set job) job (found_sound job room f h).0 (own_kept job) (search_code job room) no_code f h

  -- with the measures found.
  pub found_passes : verify_of job f.bytes ≡ answered f.measures
  unfolding search_of
  found_passes =
      (pass job f.bytes f.measures).1
      (found_circuit, over_measures (own_set job) job (found_sound job room f h).0 (own_kept job) (search_code job room) no_code f h)

  -- The ready times returned are the circuit's: their greatest is its depth, and a wire that it lacks has 0.
  pub found_ready : Timed (wires f.bytes) f.measures
  found_ready = verified_ready job f.bytes f.measures found_passes

  -- It is marked exactly where the job is a longer one, with a three-control gate or without.
  pub found_mark : marked f.bytes ≡ longer job
  unfolding search_of
  found_mark = over_mark (own_set job) job (found_sound job room f h).0 (own_kept job) (search_code job room) no_code f h

-- With longer jobs, an odd table on four data wires without an ancilla needs a three-control gate.
pub odd_found : (job : List ℕ) (room : ℕ) (f : Found) → search_of job room ≡ answered f
    → data_wires job ≡ 4
    → ancillas job ≡ 0
    → table_parity job ≡ odd
    → 1 ≤ three_control_gates (gates f.bytes)
odd_found job room f h four bare is_odd =
    let k = found_sound job room f h in
    let w = returned job room f h in
    let l = w.0 in
    let p = w.1.0 in
    subst (λ (gs : List ℕ). 1 ≤ three_control_gates gs) (sym (ap gates w.1.1.1.0 ∙ same_gates job k.0 p l))
    (odd_solved (own_set job) job k.0 (own_kept job) four bare is_odd l p w.1.1.0.solution)

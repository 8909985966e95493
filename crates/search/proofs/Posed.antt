-- What a search hands to the solver poses the problem of the job and the gates at hand.
use mathlib.Core.Path.{◌≡◌, refl, sym, ap, ap₂, ◌∙◌, subst}
use mathlib.Core.Bool.{Bool, true, false}
use mathlib.Core.Logic.{◌⊎◌, inl, inr, ⊎_elim}
use mathlib.Core.List.{List, Memᴰ}
use Prim.Native.Nat.{ℕ, ◌^◌, ◌≤◌, ◌<◌}
use native.Mathlib.Omega.{arith}
use lib.ListN.{length, get_or}
use Rattle.std.proofs.lemmas.List.{get_or-map, length-map}
use Rattle.logic.specs.Rules.{both, pick}
use Rattle.logic.specs.Lists.{Among}
use Rattle.logic.proofs.Members.{member_at, among_all}
use Rattle.gate.specs.Gates.{lawful}
use Rattle.gate.proofs.Widen.{widen, parts}
use Rattle.circuit.specs.run.Inner.{columns_after}
use Rattle.table.specs.Rows.{realizes}
use Rattle.record.specs.JobRules.{job_code}
use Rattle.record.specs.job_fields.Jobs.{longer, most_controls, data_wires, wires, rows}
use Rattle.record.proofs.Kept.{sound_job, wires_within}
use Rattle.record.proofs.job_fields.Widths.{two_or_three}
use Rattle.columns.specs.Wanted.{wanted_of, columns_of, start_columns, reached}
use Rattle.columns.proofs.Agreement.{met_agrees, tidy_clean}
use Rattle.problem.specs.declared.Entry.{Entry}
use Rattle.problem.specs.Entries.{entry_gates}
use Rattle.walk.specs.declared.node.Task.{Task}
use Rattle.walk.specs.node.States.{OnWires, Fair, Asks, Posed, Limited}
use Rattle.outcomes.specs.Outcomes.{GateSet, problem_over}
use Rattle.outcomes.specs.Inner.{Lawfuls, Tabled}
use Rattle.search.specs.Inner.{task_of}

entry_member : (entries : List Entry) (i : ℕ) (d : Entry) → i < length entries → Memᴰ (get_or entries i d).gate (entry_gates entries)
entry_member entries i d h =
    let gate : Entry → ℕ = λ e. e.gate in
    let long = length-map entries gate in
    subst (λ (g : ℕ). Memᴰ g (entry_gates entries)) (get_or-map gate entries i d 0 h) (member_at (entry_gates entries) i (omega arith))

-- gates of a job have at most two or three controls
two_three : (more : Bool) → (pick {A = ℕ} more 3 2 ≡ 2) ⊎ (pick {A = ℕ} more 3 2 ≡ 3)
two_three true = inr refl
two_three false = inl refl

module _ (job : List ℕ) (sound : job_code job ≡ 0) where
  pub rows_few : length (rows job) ≤ 16
  rows_few =
      let s = sound_job job sound in
      let r = s.rows_many in
      ⊎_elim
      (λ (e : data_wires job ≡ 3). let k : length (rows job) ≡ 8 = r ∙ ap (λ (n : ℕ). 2 ^ n) e in omega arith)
      (λ (e : data_wires job ≡ 4). let k : length (rows job) ≡ 16 = r ∙ ap (λ (n : ℕ). 2 ^ n) e in omega arith)
      s.width

  -- gates lawful for the job are known with as many controls as it allows or more
  module _ (listing : List ℕ) (kept : Lawfuls job listing) where
    known : (k g : ℕ) → most_controls job ≤ k → Memᴰ g listing → lawful k 5 g ≡ true
    known k g h m = widen (most_controls job) (wires job) k 5 g h (wires_within job sound).1 (kept g m)

    -- the test of columns is the test of rows
    columned : (p : ℕ) (l : List ℕ) → Among listing l
        → realizes (data_wires job) (rows job) p l ≡ reached (wanted_of (rows job)) (data_wires job) (columns_after l start_columns) p
    unfolding realizes
    columned p l a =
        let h = among_all (lawful 3 5) listing l (λ g m. known 3 g (two_or_three (longer job)).1 m) a in
        sym (ap₂ both (met_agrees (rows job) l rows_few h p) (tidy_clean l h (data_wires job) (sound_job job sound).width))

-- what is handed to the solver: the job's task, and entries of gates that are lawful for it
pub record Handed (job : List ℕ) (task : Task) (entries : List Entry) : Type 0 where
  pub sound : job_code job ≡ 0
  pub kept : Lawfuls job (entry_gates entries)
  pub tasked : task ≡ task_of job

module _ {job : List ℕ} {task : Task} {entries : List Entry} (h : Handed job task entries) where
  fair : Fair (task_of job)
  unfolding task_of
  fair = record { wide = (sound_job job h.sound).width; few = two_three (longer job) }

  pub in_range : Fair task × (task.gate_limit ≤ 12)
  unfolding task_of
  in_range = subst (λ (u : Task). Fair u × (u.gate_limit ≤ 12)) (sym h.tasked) (fair, (sound_job job h.sound).limit)

  pub on_wires : OnWires entries
  on_wires k d l =
      let m = entry_member entries k d l in
      (parts (most_controls job) 5 _ (known job h.sound (entry_gates entries) h.kept (most_controls job) _ (omega arith) m)).target

  module _ {G : GateSet} (t : Tabled G entries) where
    lawfuls : Lawfuls job G.gates
    lawfuls = subst (Lawfuls job) t.listed h.kept

    pub limited : Limited (problem_over G job) task
    unfolding problem_over task_of
    limited = subst (Limited (problem_over G job)) (sym h.tasked) (record { gates_most = refl; cost_most = refl })

    asked : Asks (problem_over G job) task
    unfolding problem_over task_of wanted_of columns_of
    asked =
        subst (Asks (problem_over G job)) (sym h.tasked)
        (record {
          fair = fair;
          four = refl;
          laid = refl;
          table = columned job h.sound G.gates lawfuls;
          deep = refl;
          kinds = λ g m. known job h.sound G.gates lawfuls (most_controls job) g (omega arith) m;
        })

    pub posed : Posed (problem_over G job) task entries
    unfolding problem_over
    posed = record { asks = asked; listed = t.listed; priced = t.priced; timed = t.timed }

-- What a library that breaks no rule is known to be: an entry is found exactly where a duration is, and its gates are lawful for the job.
use mathlib.Core.Path.{◌≡◌, refl, sym, ap, ◌∙◌}
use mathlib.Core.Bool.{Bool, true, false, false≢true}
use mathlib.Core.Logic.{⊎_elim}
use mathlib.Core.List.Memᴰ
use mathlib.Core.List.{List, [], ◌∷◌, map, Memᴰ}
use Prim.Native.Nat.{ℕ, suc, ◌%◌, ◌≤◌}
use borrow.Author.Tests.{eqb-true, eq-eqb, leb-true}
use lib.Dec.{leb, eqb, lit<}
use lib.ListN.{length}
use Rattle.logic.specs.Rules.{both, pick, rule, either}
use Rattle.logic.specs.Lists.{all_of, Among}
use Rattle.logic.proofs.Chain.{both_left, both_right, either_cases, either_first, either_second, rule_kept, and_then_zero}
use Rattle.logic.proofs.Members.{all_member, all_members}
use Rattle.gate.specs.Gates.{lawful}
use Rattle.record.specs.JobRules.{job_code}
use Rattle.record.specs.job_fields.Jobs.{most_controls, wires}
use Rattle.record.specs.circuit_rules.CircuitRules.{circuit_code}
use Rattle.record.specs.pair_codes.Codes.{circuit_code_for}
use Rattle.verify.proofs.Codes.{circuit_parts}
use Rattle.problem.specs.declared.Entry.{Entry}
use Rattle.library.specs.entries.Library.{entries_of, gates_in, entry_for, entered, listed, library_size_ok, entry_ok, entries_ok, library_sound, library_code}
use Rattle.library.specs.calls.Calls.{job_with_code, search_with_code, circuit_with_code}
use Rattle.library.specs.entries.Inner.{timed}

abbrev pub gate_in : Entry → ℕ
gate_in e = e.gate

module _ (k w : ℕ) where
  -- the rules of an entry
  entry_parts : (least : ℕ) (e : Entry) → entry_ok k w least e ≡ true → (lawful k w e.gate ≡ true) × (leb 1 e.duration ≡ true)
  unfolding entry_ok
  entry_parts least e h =
      let above = leb least e.gate in
      let slow = leb 1 e.duration in
      (both_left (lawful k w e.gate) (both slow above) h, both_left slow above (both_right (lawful k w e.gate) (both slow above) h))

  -- a duration is found exactly where an entry is
  entered_timed : (least : ℕ) (es : List Entry) (b : ℕ) → entries_ok k w least es ≡ true → leb 1 (entry_for es b).duration ≡ entered es b
  unfolding entries_ok entry_for entered
  entered_timed least [] b h = refl
  entered_timed least (e ∷ es) b h =
      by_gate (eqb e.gate b) (entered_timed (suc e.gate) es b (both_right (entry_ok k w least e) (entries_ok k w (suc e.gate) es) h))
    where
      by_gate : (t : Bool) → leb 1 (entry_for es b).duration ≡ entered es b → leb 1 (pick t e (entry_for es b)).duration ≡ either t (entered es b)
      by_gate true rest = (entry_parts least e (both_left (entry_ok k w least e) (entries_ok k w (suc e.gate) es) h)).1
      by_gate false rest = rest

  entries_lawful : (least : ℕ) (es : List Entry) → entries_ok k w least es ≡ true → (g : ℕ) → Memᴰ g (map gate_in es) → lawful k w g ≡ true
  unfolding entries_ok
  entries_lawful least [] h g m = absurd (Memᴰ.not-nil m)
  entries_lawful least (e ∷ es) h g m =
      ⊎_elim
      (λ (q : g ≡ e.gate). ap (lawful k w) q ∙ (entry_parts least e (both_left (entry_ok k w least e) (entries_ok k w (suc e.gate) es) h)).0)
      (λ (n : Memᴰ g (map gate_in es)).
      entries_lawful (suc e.gate) es (both_right (entry_ok k w least e) (entries_ok k w (suc e.gate) es) h) g n)
      (Memᴰ.cases_cons m)

module _ (job lib : List ℕ) (sound : library_sound job lib ≡ true) where
  pub all_listed : (l : List ℕ) → all_of (timed lib) l ≡ all_of (listed lib) l
  unfolding timed
  all_listed l = λ i. all_of (λ b. entered_timed (most_controls job) (wires job) 0 (entries_of lib) b sound i) l

  -- its gates are lawful for the job
  pub gates_lawful : (g : ℕ) → Memᴰ g (gates_in lib) → lawful (most_controls job) (wires job) g ≡ true
  gates_lawful = entries_lawful (most_controls job) (wires job) 0 (entries_of lib) sound

-- listed: among its gates
entered_member : (es : List Entry) (b : ℕ) → entered es b ≡ true → Memᴰ b (map gate_in es)
unfolding entered
entered_member [] b h = absurd (false≢true h)
entered_member (e ∷ es) b h =
    ⊎_elim
    (λ (q : eqb e.gate b ≡ true). Memᴰ.head (sym (eqb-true e.gate b q)))
    (λ (q : entered es b ≡ true). Memᴰ.tail (entered_member es b q))
    (either_cases (eqb e.gate b) (entered es b) h)

member_entered : (es : List Entry) (b : ℕ) → Memᴰ b (map gate_in es) → entered es b ≡ true
unfolding entered
member_entered [] b m = absurd (Memᴰ.not-nil m)
member_entered (e ∷ es) b m =
    ⊎_elim
    (λ (q : b ≡ e.gate). either_first (eqb e.gate b) (entered es b) (eq-eqb e.gate b (sym q)))
    (λ (n : Memᴰ b (map gate_in es)). either_second (eqb e.gate b) (entered es b) (member_entered es b n))
    (Memᴰ.cases_cons m)

module _ (lib l : List ℕ) where
  pub listed_among : all_of (listed lib) l ≡ true → Among (gates_in lib) l
  listed_among h b m = entered_member (entries_of lib) b (all_member (listed lib) b l h m)

  pub among_listed : Among (gates_in lib) l → all_of (listed lib) l ≡ true
  among_listed a = all_members (listed lib) l (λ b m. member_entered (entries_of lib) b (a b m))

-- what a code of 0 says of a library
pub record SoundLibrary (job lib : List ℕ) : Type 0 where
  pub few : length lib ≤ 225
  pub whole : length lib % 3 ≡ 0
  pub sound : library_sound job lib ≡ true

module _ (job lib : List ℕ) where
  pub sound_library : library_code job lib ≡ 0 → SoundLibrary job lib
  unfolding library_code library_size_ok
  sound_library h =
      let k₁ = rule_kept (library_size_ok lib) 29 _ (lit< tt) h in
      let k₂ = rule_kept (library_sound job lib) 30 0 (lit< tt) k₁.1 in
      let few = leb (length lib) 225 in
      let whole = eqb (length lib % 3) 0 in
      record {
        few = leb-true (length lib) 225 (both_left few whole k₁.0);
        whole = eqb-true (length lib % 3) 0 (both_right few whole k₁.0);
        sound = k₂.0;
      }

  pub job_parts : job_with_code job lib ≡ 0 → (job_code job ≡ 0) × (library_code job lib ≡ 0)
  unfolding job_with_code
  job_parts h = and_then_zero (job_code job) (library_code job lib) h

-- a well-formed job, a sound library, and a circuit that suits the job
pub record Suited (job lib c : List ℕ) : Type 0 where
  pub job_sound_law : job_code job ≡ 0
  pub library_sound_law : library_code job lib ≡ 0
  pub sound : library_sound job lib ≡ true
  pub circuit_fits : circuit_code_for job c ≡ 0
  pub circuit_sound_law : circuit_code c ≡ 0

pub suited : (job lib c : List ℕ) → circuit_with_code job lib c ≡ 0 → Suited job lib c
unfolding circuit_with_code
suited job lib c h =
    let p = and_then_zero (job_with_code job lib) (circuit_code_for job c) h in
    let q = job_parts job lib p.0 in
    record {
      job_sound_law = q.0;
      library_sound_law = q.1;
      sound = (sound_library job lib q.1).sound;
      circuit_fits = p.1;
      circuit_sound_law = (circuit_parts job c p.1).0;
    }

-- a well-formed job, a sound library, and at least 15 bytes
pub record Searchable (job lib : List ℕ) (room : ℕ) : Type 0 where
  pub job_sound_law : job_code job ≡ 0
  pub library_sound_law : library_code job lib ≡ 0
  pub wide : 15 ≤ room

pub searchable : (job lib : List ℕ) (room : ℕ) → search_with_code job lib room ≡ 0 → Searchable job lib room
unfolding search_with_code
searchable job lib room h =
    let p = and_then_zero (job_with_code job lib) (rule (leb 15 room) 13 0) h in
    let q = job_parts job lib p.0 in
    record {
      job_sound_law = q.0;
      library_sound_law = q.1;
      wide = leb-true 15 room (rule_kept (leb 15 room) 13 0 (lit< tt) p.1).0;
    }

-- the same for a call that goes on after these checks
module _ (job lib c : List ℕ) (h : 0 ≡ circuit_with_code job lib c) where
  pub passed_job : job_code job ≡ 0
  passed_job = (suited job lib c (sym h)).job_sound_law

  pub passed_library : library_sound job lib ≡ true
  passed_library = (suited job lib c (sym h)).sound

  pub passed_circuit : circuit_code c ≡ 0
  passed_circuit = (suited job lib c (sym h)).circuit_sound_law

pub ruleset passed = (passed_job, passed_library, passed_circuit)

module _ (job lib : List ℕ) (room : ℕ) (h : 0 ≡ search_with_code job lib room) where
  pub asked_job : job_code job ≡ 0
  asked_job = (searchable job lib room (sym h)).job_sound_law

  pub asked_library : library_code job lib ≡ 0
  asked_library = (searchable job lib room (sym h)).library_sound_law

  pub asked_room : 15 ≤ room
  asked_room = (searchable job lib room (sym h)).wide

pub ruleset asked = (asked_job, asked_library, asked_room)

-- The promises of change request 1 on reading, for every text and every length of the answer buffer.
use mathlib.Core.Path.{◌≡◌, refl, sym, ap, ◌∙◌}
use mathlib.Core.Bool.{Bool, true, false}
use mathlib.Core.Logic.{◌↔◌}
use mathlib.Core.List.{List}
use mathlib.Core.Option.{Option, none, some}
use Prim.Native.Nat.{ℕ, ◌≤◌, ◌<◌}
use native.Mathlib.Omega.{arith}
use borrow.Author.Tests.{le-leb, lt-leb, leb-true, leb-false}
use lib.Dec.{leb}
use lib.ListN.{length}
use Rattle.logic.specs.Answers.{refused, answered}
use Rattle.record.specs.circuit_rules.CircuitRules.{circuit_code}
use Rattle.revlib.specs.Grammar.{Description, record_of}
use Rattle.revlib.specs.Reading.{parse, outcome_of, read_of}
use Rattle.revlib.specs.Demand.{Fits}
use Rattle.revlib.proofs.Exact.{exact}
use Rattle.revlib.proofs.Sound.{record_sound}

-- fewer than 15 bytes for the answer, whatever the text
pub narrow : (text : List ℕ) (room : ℕ) → room < 15 → read_of text room ≡ refused 13
unfolding read_of
narrow text room h = rw (lt-leb 15 room h)

-- a text fits at most one description
pub one_meaning : (text : List ℕ) (d e : Description) → Fits text d → Fits text e → d ≡ e
one_meaning text d e f g =
    let p = (exact text d).1 (f.well, f.rendered) in
    let q = (exact text e).1 (g.well, g.rendered) in
    cc

module _ (text : List ℕ) (room : ℕ) (wide : 15 ≤ room) where
  -- the answer for a text of at most 4,096 bytes depends on what it says
  pub within : length text ≤ 4096 → read_of text room ≡ outcome_of (parse text)
  unfolding read_of
  within h = rw (le-leb 15 room wide, le-leb (length text) 4096 h)

  pub longer : 4096 < length text → read_of text room ≡ refused 22
  unfolding read_of
  longer h = rw (le-leb 15 room wide, lt-leb (length text) 4096 h)

  fitting : (d : Description) → Fits text d → read_of text room ≡ outcome_of (some d)
  fitting d f = within f.short ∙ ap outcome_of ((exact text d).1 (f.well, f.rendered))

  -- the three ways in which an answer comes about
  data Way : Type 0 where
    taken : (d : Description) → Fits text d → length d.lines ≤ 12 → read_of text room ≡ answered (record_of d) → Way
    crowded : (d : Description) → Fits text d → 12 < length d.lines → read_of text room ≡ refused 23 → Way
    astray : ((d : Description) → Fits text d → ⊥) → read_of text room ≡ refused 22 → Way

  few : (d : Description) → Fits text d → length d.lines ≤ 12 → read_of text room ≡ answered (record_of d)
  few d f h = fitting d f ∙ rw (le-leb (length d.lines) 12 h)

  many : (d : Description) → Fits text d → 12 < length d.lines → read_of text room ≡ refused 23
  many d f h = fitting d f ∙ rw (lt-leb (length d.lines) 12 h)

  by_count : (d : Description) → Fits text d → (t : Bool) → leb (length d.lines) 12 ≡ t → Way
  by_count d f true e = let h = leb-true (length d.lines) 12 e in taken d f h (few d f h)
  by_count d f false e = let h = leb-false (length d.lines) 12 e in crowded d f h (many d f h)

  by_parse : length text ≤ 4096 → (o : Option Description) → parse text ≡ o → Way
  by_parse h none e =
      astray (λ d f. let k = (exact text d).1 (f.well, f.rendered) in let z : ◌≡◌ {A = ℕ} 0 1 = cc in omega arith)
      (within h ∙ ap outcome_of e)
  by_parse h (some d) e =
      let k = (exact text d).0 e in
      by_count d (record { well = k.0; rendered = k.1; short = h }) (leb (length d.lines) 12) refl

  by_length : (t : Bool) → leb (length text) 4096 ≡ t → Way
  by_length true e = by_parse (leb-true (length text) 4096 e) (parse text) refl
  by_length false e =
      let h = leb-false (length text) 4096 e in
      astray (λ d f. let k = f.short in omega arith) (longer h)

  way : Way
  way = by_length (leb (length text) 4096) refl

  -- 1. "accepted exactly when it fits and has at most 12 gates, and its gate lines are the record's gates in order"
  pub accepted : (bytes : List ℕ) → (read_of text room ≡ answered bytes)
      ↔ ((d : Description) × (Fits text d × ((length d.lines ≤ 12) × (record_of d ≡ bytes))))
  accepted bytes = (by_way way, (λ h. few h.0 h.1.0 h.1.1.0 ∙ ap answered h.1.1.1))
    where
      by_way : Way → read_of text room ≡ answered bytes → (d : Description) × (Fits text d × ((length d.lines ≤ 12) × (record_of d ≡ bytes)))
      by_way (taken d f h e) k = (d, (f, (h, cc)))
      by_way (crowded d f h e) k = let z : ◌≡◌ {A = ℕ} 0 1 = cc in absurd (omega arith)
      by_way (astray f e) k = let z : ◌≡◌ {A = ℕ} 0 1 = cc in absurd (omega arith)

  -- 2. "23, more than 12 gates", of a text that fits
  pub too_many : (read_of text room ≡ refused 23) ↔ ((d : Description) × (Fits text d × (12 < length d.lines)))
  too_many = (by_way way, (λ h. many h.0 h.1.0 h.1.1))
    where
      by_way : Way → read_of text room ≡ refused 23 → (d : Description) × (Fits text d × (12 < length d.lines))
      by_way (taken d f h e) k = let z : ◌≡◌ {A = ℕ} 0 1 = cc in absurd (omega arith)
      by_way (crowded d f h e) k = (d, (f, h))
      by_way (astray f e) k = let z : ◌≡◌ {A = ℕ} 0 1 = cc in absurd (omega arith)

  -- 3. "22, any departure from this form, length included"
  pub departed : (read_of text room ≡ refused 22) ↔ ((d : Description) → Fits text d → ⊥)
  departed = (by_way way, by_none way)
    where
      by_way : Way → read_of text room ≡ refused 22 → (d : Description) → Fits text d → ⊥
      by_way (taken d f h e) k g w = let z : ◌≡◌ {A = ℕ} 0 1 = cc in omega arith
      by_way (crowded d f h e) k g w = let z : ◌≡◌ {A = ℕ} 0 1 = cc in omega arith
      by_way (astray f e) k g w = f g w

      by_none : Way → ((d : Description) → Fits text d → ⊥) → read_of text room ≡ refused 22
      by_none (taken d f h e) n = absurd (n d f)
      by_none (crowded d f h e) n = absurd (n d f)
      by_none (astray f e) n = e

  -- 4. what was read passes the circuit's checks
  pub checked : (bytes : List ℕ) → read_of text room ≡ answered bytes → circuit_code bytes ≡ 0
  checked bytes h =
      let a = (accepted bytes).0 h in
      ap circuit_code (sym a.1.1.1) ∙ record_sound a.0 a.1.0.well a.1.1.0

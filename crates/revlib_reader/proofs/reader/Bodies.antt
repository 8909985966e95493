-- The gate lines read so far, and what the next line adds.
use Rattle.std.proofs.Common.{◌≡◌, refl, sym, ap, ◌∙◌, Bool, true, false, List, [], ◌∷◌, ◌++◌, map, append-nil, append_assoc, ℕ, suc, ◌+◌, ◌*◌, ◌≤◌, ◌<◌, length, length-append, length-take, length-drop, length-set, get_or, take, drop, set, replicate, ltb, Option, Some, None, arith}
use Rattle.std.proofs.lemmas.List.{map-append}
use Rattle.std.proofs.Math.Option as maths
use mathlib.Core.Bool.{false≢true}
use native.Mathlib.Numerals.{add-one}
use native.Mathlib.Nat.{not-suc-le-zero}
use borrow.Author.Tests.{ltb-true, ltb-false}
use lib.Seq.{take-suc-set, drop-drop}
use Rattle.logic.specs.Rules.{both, pick}
use Rattle.logic.proofs.Chain.{both_left, both_right}
use Rattle.revlib.specs.Grammar.{gate_byte}
use Rattle.revlib.specs.Reading.{announced, line_at, line_here, end_here, after, lines_at}
use Rattle.revlib.proofs.Exact.{skipped}
use Rattle.revlib_reader.specs.declared.gate_lines.Line.{Line}
use Rattle.revlib_reader.specs.declared.reader.Body.{Body}
use Rattle.revlib_reader.specs.gate_lines.Tokens.{gate_of, line_of}
use Rattle.revlib_reader.specs.reader.Steps.{line_in, LinesAre}

outside : (t u : Bool) → both t u ≡ false → (t ≡ true → u ≡ false)
outside true u h e = h
outside false u h e = absurd (false≢true e)

-- what the next line says of the rest of a text that is not at its end
abbrev line : Bool → Bool → ℕ → ℕ → Option Line
line t u b n = pick t (Some Line.End) (pick u (Some (Line.Gate b n)) None)

gate_told : (t u : Bool) (b n c k : ℕ) → line t u b n ≡ Some (Line.Gate c k) → ((t ≡ false) × (u ≡ true)) × ((b ≡ c) × (n ≡ k))
gate_told true u b n c k h = cc
gate_told false true b n c k h = ((refl, refl), (cc, cc))
gate_told false false b n c k h = cc

end_told : (t u : Bool) (b n : ℕ) → line t u b n ≡ Some Line.End → t ≡ true
end_told true u b n h = refl
end_told false true b n h = cc
end_told false false b n h = cc

none_told : (t u : Bool) (b n : ℕ) → line t u b n ≡ None → (t ≡ false) × (u ≡ false)
none_told true u b n h = cc
none_told false true b n h = cc
none_told false false b n h = (refl, refl)

module _ (ls : List ℕ) where
  gate_line_law : (s : List ℕ) (b n : ℕ) → line_of ls s ≡ Some (Line.Gate b n)
      → ((end_here s ≡ false) × (line_here ls s ≡ true)) × ((gate_byte ls (line_at s) ≡ b) × (3 + 2 * length (line_at s) ≡ n))
  unfolding line_of gate_of
  gate_line_law s b n h = gate_told (end_here s) (line_here ls s) (gate_byte ls (line_at s)) (3 + 2 * length (line_at s)) b n h

  -- a line's length
  pub line_size : (s : List ℕ) (b n : ℕ) → line_of ls s ≡ Some (Line.Gate b n) → (3 ≤ n) × (n ≤ 9)
  unfolding line_at
  line_size s b n e =
      let p = gate_line_law s b n e in
      let k = p.1.1 in
      let l : length (line_at s) ≤ 3 = omega (arith, length-take (announced s) (get_or s 3 0 ∷ get_or s 5 0 ∷ get_or s 7 0 ∷ [])) in
      (omega arith, omega arith)

  -- a gate line is read, and what follows it next
  next_line : (s : List ℕ) (b n : ℕ) → 0 < length s → line_of ls s ≡ Some (Line.Gate b n) → lines_at ls 0 s ≡ after (line_at s) (lines_at ls 0 (drop n s))
  unfolding lines_at
  next_line [] b n h e = absurd (not-suc-le-zero h)
  next_line (x ∷ s) b n h e =
      let p = gate_line_law (x ∷ s) b n e in
      let k : n ≡ suc (2 + 2 * length (line_at (x ∷ s))) = omega (arith, p.1.1) in
      rw (p.0.0, p.0.1, k) (ap (after (line_at (x ∷ s))) (skipped ls (2 + 2 * length (line_at (x ∷ s))) s))

  last_line : (s : List ℕ) → 0 < length s → line_of ls s ≡ Some Line.End → lines_at ls 0 s ≡ maths.some []
  unfolding lines_at line_of gate_of
  last_line [] h e = absurd (not-suc-le-zero h)
  last_line (x ∷ s) h e = rw (end_told (end_here (x ∷ s)) (line_here ls (x ∷ s)) (gate_byte ls (line_at (x ∷ s))) (3 + 2 * length (line_at (x ∷ s))) e)

  no_line : (s : List ℕ) → 0 < length s → line_of ls s ≡ None → lines_at ls 0 s ≡ maths.none
  unfolding lines_at line_of gate_of
  no_line [] h e = absurd (not-suc-le-zero h)
  no_line (x ∷ s) h e =
      let p = none_told (end_here (x ∷ s)) (line_here ls (x ∷ s)) (gate_byte ls (line_at (x ∷ s))) (3 + 2 * length (line_at (x ∷ s))) e in
      rw (p.0, p.1)

  -- lines in front of what else is read
  abbrev before : List (List ℕ) → maths.Option (List (List ℕ)) → maths.Option (List (List ℕ))
  before done maths.none = maths.none
  before done (maths.some l) = maths.some (done ++ l)

  one_more : (done : List (List ℕ)) (l : List ℕ) (o : maths.Option (List (List ℕ))) → before (done ++ (l ∷ [])) o ≡ before done (after l o)
  one_more done l maths.none = refl
  one_more done l (maths.some ls) = ap maths.some (append_assoc done (l ∷ []) ls)

  none_before : (o : maths.Option (List (List ℕ))) → o ≡ before [] o
  none_before maths.none = refl
  none_before (maths.some l) = refl

  -- the lines passed: their number, their gates where there is room, and what is still to be read
  pub record Held (text rest : List ℕ) (b : Body) : Type 0 where
    pub done : List (List ℕ)
    pub counted : b.count ≡ length done
    pub kept : b.count ≤ 12 → take b.count b.gates ≡ map (gate_byte ls) done
    pub left : lines_at ls 0 text ≡ before done (lines_at ls 0 rest)

  -- a line in the text, by whether there are bytes ahead
  within_told : (t : Bool) (o : Option Line) (l : Line) → pick t o None ≡ Some l → (t ≡ true) × (o ≡ Some l)
  within_told true o l h = (refl, h)
  within_told false o l h = cc

  module _ (s : List ℕ) (start at : ℕ) (b : Body) where
    -- what is known with the reader at `at`
    pub record Reached : Type 0 where
      pub twelve : length b.gates ≡ 12
      pub few : b.count ≤ at
      pub held : Held (drop start s) (drop at s) b

    module _ (is : Reached) where
      abbrev within : Bool
      within = both (ltb at (length s)) (ltb at 4096)

      ahead : within ≡ true → (0 < length (drop at s)) × (at < 4096)
      ahead e =
          let a = ltb-true at (length s) (both_left (ltb at (length s)) (ltb at 4096) e) in
          let b = ltb-true at 4096 (both_right (ltb at (length s)) (ltb at 4096) e) in
          (omega (arith, length-drop at s), b)

      -- `.end`: the lines passed are all
      pub reached_end : line_in ls s at ≡ Some Line.End → LinesAre ls (lines_at ls 0 (drop start s)) b
      unfolding line_in
      reached_end h =
          let p = within_told within (line_of ls (drop at s)) Line.End h in
          let d = is.held in
          record {
            read = d.done;
            are = d.left ∙ ap (before d.done) (last_line (drop at s) (ahead p.0).0 p.1) ∙ ap maths.some (append-nil d.done);
            counted = d.counted;
            kept = d.kept;
          }

      -- no line in order: no body is
      pub reached_none : line_in ls s at ≡ None → length s ≤ 4096 → lines_at ls 0 (drop start s) ≡ maths.none
      unfolding line_in lines_at
      reached_none h m = is.held.left ∙ ap (before is.held.done) (stops within refl)
        where
          nothing : (s : List ℕ) → length s ≤ 0 → lines_at ls 0 s ≡ maths.none
          nothing [] h = refl
          nothing (x ∷ s) h = absurd (omega arith)

          past : (t : Bool) → ltb at (length s) ≡ t → within ≡ false → length (drop at s) ≤ 0
          past true h e = let b = ltb-false at 4096 (outside (ltb at (length s)) (ltb at 4096) e h) in let a = ltb-true at (length s) h in absurd (omega arith)
          past false h e = let a = ltb-false at (length s) h in omega (arith, length-drop at s)

          stops : (t : Bool) → within ≡ t → lines_at ls 0 (drop at s) ≡ maths.none
          stops true e = no_line (drop at s) (ahead e).0 (rw e at h)
          stops false e = nothing (drop at s) (past (ltb at (length s)) refl e)

      -- a gate line: there is one more
      module _ (byte n : ℕ) (h : line_in ls s at ≡ Some (Line.Gate byte n)) where
        inside : ((0 < length (drop at s)) × (at < 4096)) × (line_of ls (drop at s) ≡ Some (Line.Gate byte n))
        unfolding line_in
        inside = let p = within_told within (line_of ls (drop at s)) (Line.Gate byte n) h in (ahead p.0, p.1)

        pub moves : (at < 4096) × (3 ≤ n)
        moves = (inside.0.1, (line_size (drop at s) byte n inside.1).0)

        pub held_more : (next : Body) → next.count ≡ b.count + 1 → next.gates ≡ set b.gates b.count byte → Held (drop start s) (drop (at + n) s) next
        held_more next c g =
            let d = is.held in
            let e = inside.1 in
            let k = d.counted in
            record {
              done = d.done ++ (line_at (drop at s) ∷ []);
              counted = omega (arith, length-append d.done (line_at (drop at s) ∷ []));
              kept = λ m.
                  let i : b.count < length b.gates = omega (arith, is.twelve) in
                  let w : b.count ≤ 12 = omega arith in
                  rw (c, g, add-one b.count, take-suc-set b.gates b.count byte i, d.kept w, map-append, (gate_line_law (drop at s) byte n e).1.0);
              left =
                  d.left ∙ ap (before d.done) (next_line (drop at s) byte n inside.0.0 e) ∙ sym (one_more d.done (line_at (drop at s)) (lines_at ls 0 (drop n (drop at s))))
                  ∙ ap (λ r. before (d.done ++ (line_at (drop at s) ∷ [])) (lines_at ls 0 r)) (drop-drop n at s);
            }

-- nothing read yet
pub reached_first : (ls s : List ℕ) (start : ℕ) (b : Body) → b.count ≡ 0 → b.gates ≡ replicate 12 0 → Reached ls s start start b
reached_first ls s start b c g =
    record {
      twelve = ap length g;
      few = omega arith;
      held = record { done = []; counted = c; kept = λ h. rw c; left = none_before ls (lines_at ls 0 (drop start s)) };
    }

-- one line more read
pub reached_more : (ls s : List ℕ) (start at : ℕ) (b : Body) (is : Reached ls s start at b) (byte n : ℕ) → line_in ls s at ≡ Some (Line.Gate byte n)
    → (next : Body) → next.count ≡ b.count + 1 → next.gates ≡ set b.gates b.count byte → Reached ls s start (at + n) next
reached_more ls s start at b is byte n h next c g =
    record {
      twelve = ap length g ∙ length-set b.gates b.count byte ∙ is.twelve;
      few = omega (arith, is.few, moves ls s start at b is byte n h);
      held = held_more ls s start at b is byte n h next c g;
    }

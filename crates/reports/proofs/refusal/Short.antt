-- Every report fits 128 bytes.
use Prim.Native.Nat.{ℕ, ◌≤◌}
use native.Mathlib.Omega.{arith}
use lib.ListN.{length, length-append}
use Rattle.circuit.specs.declared.measures.Measures.{Measures}
use Rattle.text.specs.pieces.Text.{refused_line}
use Rattle.text.proofs.pieces.Pieces.{decimal_short, spaced_short}
use Rattle.reports.proofs.meanings.Brief.{meaning_short}
use Rattle.reports.specs.refusal.Report.{passed_line, times, ready_line, passed_text, refused_text}

pub refused_line_short : (code : ℕ) → length (refused_line code) ≤ 14
unfolding refused_line
refused_line_short code = simp length-append (omega (arith, decimal_short code))

pub refused_short : (code : ℕ) → length (refused_text code) ≤ 128
unfolding refused_text
refused_short code = simp length-append (omega (arith, refused_line_short code, meaning_short code))

pub passed_line_short : (m : Measures) → length (passed_line m) ≤ 25
unfolding passed_line
passed_line_short m = simp length-append (omega (arith, spaced_short m.gates, spaced_short m.cost, decimal_short m.depth))

pub times_short : (m : Measures) → length (times m) ≤ 29
unfolding times
times_short m =
    simp length-append
    (omega (
      arith,
      spaced_short m.ready0,
      spaced_short m.ready1,
      spaced_short m.ready2,
      spaced_short m.ready3,
      decimal_short m.ready4,
    ))

pub ready_line_short : (m : Measures) → length (ready_line m) ≤ 36
unfolding ready_line
ready_line_short m = simp length-append (omega (arith, times_short m))

pub passed_short : (m : Measures) → length (passed_text m) ≤ 128
unfolding passed_text
passed_short m = simp length-append (omega (arith, passed_line_short m, ready_line_short m))

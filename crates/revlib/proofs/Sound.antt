-- The record of a well-formed description keeps every rule of a circuit.
use mathlib.Core.Path.{◌≡◌, refl, sym, ap, ◌∙◌}
use mathlib.Core.Bool.{Bool, true, false, not, false≢true}
use mathlib.Core.Logic.{inl, inr, ⊎_elim}
use mathlib.Core.List.{List, [], ◌∷◌, map}
use Prim.Native.Nat.{ℕ, ◌+◌, ◌*◌, ◌^◌, ◌≤◌, ◌<◌}
use native.Mathlib.Omega.{arith}
use borrow.Author.Tests.{eqb-true, eqb-false, ne_eqb, lt-ltb, not-true}
use lib.Count.{ones, ones_in}
use lib.Dec.{eqb, ltb, leb}
use lib.ListN.{length, get_or, length-map}
use Rattle.logic.specs.Rules.{both, either, implies, all_below}
use Rattle.logic.specs.Lists.{all_of}
use Rattle.logic.proofs.Chain.{both_left, both_right, both_parts, both_true, either_cases, either_neither, implied}
use Rattle.logic.proofs.Below.{below}
use Rattle.gate.specs.Gates.{lawful}
use Rattle.table.specs.layouts.Layouts.{Width, plain, layout_ok}
use Rattle.record.specs.circuit_rules.CircuitRules.{circuit_code}
use Rattle.record.proofs.circuit_rules.Written.{circuit_kept}
use Rattle.revlib.specs.Grammar.{Constants, unsaid, all_data, one_ancilla, Description, ancilla_count, is_in, different, lower_case, data_count, heading_ok, declared, line_ok, well_formed, wire_of, gate_byte, record_of}
use Rattle.revlib.proofs.Exact.{name_count, line_count}

-- The wire of a declared letter.

wire_lt : (ls : List ℕ) (x : ℕ) → is_in x ls ≡ true → wire_of ls x < length ls
unfolding is_in wire_of
wire_lt [] x h = absurd (false≢true h)
wire_lt (y ∷ ls) x h = by_letter (wire_lt ls x) (eqb y x) refl
  where
    by_letter : (is_in x ls ≡ true → wire_of ls x < length ls) → (t : Bool) → eqb y x ≡ t → wire_of (y ∷ ls) x < length (y ∷ ls)
    by_letter more true e = rw e (omega arith)
    by_letter more false e = let r = more (rw e at h) in rw e (omega arith)

wire_at_law : (ls : List ℕ) (x : ℕ) → is_in x ls ≡ true → get_or ls (wire_of ls x) 0 ≡ x
unfolding is_in wire_of
wire_at_law [] x h = absurd (false≢true h)
wire_at_law (y ∷ ls) x h = by_letter (wire_at_law ls x) (eqb y x) refl
  where
    by_letter : (is_in x ls ≡ true → get_or ls (wire_of ls x) 0 ≡ x) → (t : Bool) → eqb y x ≡ t → get_or (y ∷ ls) (wire_of (y ∷ ls) x) 0 ≡ x
    by_letter more true e = rw e (eqb-true y x e)
    by_letter more false e = rw e (more (rw e at h))

wires_apart : (ls : List ℕ) (x y : ℕ) → is_in x ls ≡ true → is_in y ls ≡ true → (y ≡ x → ⊥) → eqb (wire_of ls x) (wire_of ls y) ≡ false
wires_apart ls x y h k n =
    ne_eqb (wire_of ls x) (wire_of ls y) (λ e. n (sym (wire_at_law ls y k) ∙ ap (λ (i : ℕ). get_or ls i 0) (sym e) ∙ wire_at_law ls x h))

-- Gates by their wires, computed for up to five of them.

abbrev one : ℕ → ℕ → Bool
one w z = implies (ltb z w) (lawful 2 w (32 * z))

abbrev apart : ℕ → ℕ → Bool
apart y z = not (eqb y z)

off : (y z : ℕ) → eqb y z ≡ false → apart y z ≡ true
off y z n = rw n

abbrev two : ℕ → ℕ → ℕ → Bool
two w y z = implies (both (ltb y w) (both (ltb z w) (apart y z))) (lawful 2 w (2 ^ y + 32 * z))

abbrev three : ℕ → ℕ → ℕ → ℕ → Bool
three w x y z =
    implies (both (ltb x w) (both (ltb y w) (both (ltb z w) (both (apart x y) (both (apart x z) (apart y z))))))
    (lawful 2 w (2 ^ x + (2 ^ y + 32 * z)))

abbrev ones_at : ℕ → Bool
ones_at w = all_below 5 (one w)

abbrev twos_at : ℕ → ℕ → Bool
twos_at w y = all_below 5 (two w y)

abbrev threes_at : ℕ → ℕ → ℕ → Bool
threes_at w x y = all_below 5 (three w x y)

abbrev twos : ℕ → Bool
twos w = all_below 5 (twos_at w)

abbrev threes_from : ℕ → ℕ → Bool
threes_from w x = all_below 5 (threes_at w x)

abbrev threes : ℕ → Bool
threes w = all_below 5 (threes_from w)

ones_all : all_below 6 ones_at ≡ true
unfolding lawful ones ones_in
ones_all = refl

twos_all : all_below 6 twos ≡ true
unfolding lawful ones ones_in
twos_all = refl

threes_all : all_below 6 threes ≡ true
unfolding lawful ones ones_in
threes_all = refl

module _ (w : ℕ) (few : w ≤ 5) where
  one_lawful : (z : ℕ) → z < w → lawful 2 w (32 * z) ≡ true
  one_lawful z hz = implied (ltb z w) (lawful 2 w (32 * z)) (below 5 (one w) (below 6 ones_at ones_all w (omega arith)) z (omega arith)) (lt-ltb z w hz)

  two_lawful : (y z : ℕ) → y < w → z < w → eqb y z ≡ false → lawful 2 w (2 ^ y + 32 * z) ≡ true
  two_lawful y z hy hz n =
      implied (both (ltb y w) (both (ltb z w) (apart y z))) (lawful 2 w (2 ^ y + 32 * z))
      (below 5 (two w y) (below 5 (twos_at w) (below 6 twos twos_all w (omega arith)) y (omega arith)) z (omega arith))
      (both_true (lt-ltb y w hy) (both_true (lt-ltb z w hz) (off y z n)))

  three_lawful : (x y z : ℕ) → x < w → y < w → z < w → eqb x y ≡ false → eqb x z ≡ false → eqb y z ≡ false
      → lawful 2 w (2 ^ x + (2 ^ y + 32 * z)) ≡ true
  three_lawful x y z hx hy hz a b c =
      implied (both (ltb x w) (both (ltb y w) (both (ltb z w) (both (apart x y) (both (apart x z) (apart y z))))))
      (lawful 2 w (2 ^ x + (2 ^ y + 32 * z)))
      (below 5 (three w x y) (below 5 (threes_at w x) (below 5 (threes_from w) (below 6 threes threes_all w (omega arith)) x (omega arith)) y (omega arith)) z (omega arith))
      (both_true (lt-ltb x w hx) (both_true (lt-ltb y w hy) (both_true (lt-ltb z w hz) (both_true (off x y a) (both_true (off x z b) (off y z c))))))

-- A line's gate.

module _ (ls : List ℕ) (few : length ls ≤ 5) where
  -- what the rules say of a line
  line_parts : (l : List ℕ) → line_ok ls l ≡ true → (different l ≡ true) × (all_of (declared ls) l ≡ true)
  unfolding line_ok
  line_parts l h =
      both_parts (different l) (all_of (declared ls) l)
      (both_right (both (leb 1 (length l)) (leb (length l) 3)) (both (different l) (all_of (declared ls) l)) h)

  different_parts : (x : ℕ) (l : List ℕ) → different (x ∷ l) ≡ true → (is_in x l ≡ false) × (different l ≡ true)
  unfolding different
  different_parts x l h = let p = both_parts (not (is_in x l)) (different l) h in (not-true (is_in x l) p.0, p.1)

  other : (x y : ℕ) (l : List ℕ) → is_in x (y ∷ l) ≡ false → (y ≡ x → ⊥) × (is_in x l ≡ false)
  unfolding is_in
  other x y l h = let p = either_neither (eqb y x) (is_in x l) h in (eqb-false y x p.0, p.1)

  declared_parts : (x : ℕ) (l : List ℕ) → all_of (declared ls) (x ∷ l) ≡ true → (is_in x ls ≡ true) × (all_of (declared ls) l ≡ true)
  unfolding all_of
  declared_parts x l h = both_parts (is_in x ls) (all_of (declared ls) l) h

  by_letters : (l : List ℕ) → (1 ≤ length l) × (length l ≤ 3) → (different l ≡ true) × (all_of (declared ls) l ≡ true)
      → lawful 2 (length ls) (gate_byte ls l) ≡ true
  unfolding gate_byte
  by_letters [] k p = absurd (omega arith)
  by_letters (z ∷ []) k p = one_lawful (length ls) few (wire_of ls z) (wire_lt ls z (declared_parts z [] p.1).0)
  by_letters (y ∷ z ∷ []) k p =
      let dy = declared_parts y (z ∷ []) p.1 in
      let dz = declared_parts z [] dy.1 in
      let n = other y z [] (different_parts y (z ∷ []) p.0).0 in
      two_lawful (length ls) few (wire_of ls y) (wire_of ls z) (wire_lt ls y dy.0) (wire_lt ls z dz.0) (wires_apart ls y z dy.0 dz.0 n.0)
  by_letters (x ∷ y ∷ z ∷ []) k p =
      let dx = declared_parts x (y ∷ z ∷ []) p.1 in
      let dy = declared_parts y (z ∷ []) dx.1 in
      let dz = declared_parts z [] dy.1 in
      let nx = different_parts x (y ∷ z ∷ []) p.0 in
      let xy = other x y (z ∷ []) nx.0 in
      let xz = other x z [] xy.1 in
      let yz = other y z [] (different_parts y (z ∷ []) nx.1).0 in
      three_lawful (length ls) few (wire_of ls x) (wire_of ls y) (wire_of ls z) (wire_lt ls x dx.0) (wire_lt ls y dy.0) (wire_lt ls z dz.0)
      (wires_apart ls x y dx.0 dy.0 xy.0) (wires_apart ls x z dx.0 dz.0 xz.0) (wires_apart ls y z dy.0 dz.0 yz.0)
  by_letters (x ∷ y ∷ z ∷ u ∷ l) k p = absurd (omega arith)

  pub line_lawful : (l : List ℕ) → line_ok ls l ≡ true → lawful 2 (length ls) (gate_byte ls l) ≡ true
  line_lawful l h = by_letters l (line_count ls l h) (line_parts l h)

  lines_lawful : (l : List (List ℕ)) → all_of (line_ok ls) l ≡ true → all_of (lawful 2 (length ls)) (map (gate_byte ls) l) ≡ true
  unfolding all_of
  lines_lawful [] h = refl
  lines_lawful (a ∷ l) h =
      let p = both_parts (line_ok ls a) (all_of (line_ok ls) l) h in
      both_true (line_lawful a p.0) (lines_lawful l p.1)

-- The record.

pub ancilla_few : (c : Constants) → ancilla_count c ≤ 1
ancilla_few unsaid = omega arith
ancilla_few all_data = omega arith
ancilla_few one_ancilla = omega arith

pub data_width : (ls : List ℕ) (c : Constants) → heading_ok ls c ≡ true → Width (data_count ls c)
unfolding heading_ok
data_width ls c h =
    ⊎_elim (λ (e : eqb (data_count ls c) 3 ≡ true). inl (eqb-true (data_count ls c) 3 e)) (λ (e : eqb (data_count ls c) 4 ≡ true). inr (eqb-true (data_count ls c) 4 e))
    (either_cases (eqb (data_count ls c) 3) (eqb (data_count ls c) 4)
    (both_left (either (eqb (data_count ls c) 3) (eqb (data_count ls c) 4)) (both (different ls) (all_of lower_case ls)) h))

pub four : (n : ℕ) → Width n → (n ≡ 3 → ⊥) → n ≡ 4
four n (inl e) h = absurd (h e)
four n (inr e) h = e

pub plain_ok : (n : ℕ) → Width n → layout_ok n (plain n) ≡ true
unfolding layout_ok
plain_ok n (inl e) = rw e
plain_ok n (inr e) = rw e

-- data wires and ancillas are all wires
pub wires_joined : (ls : List ℕ) (c : Constants) → Width (data_count ls c) → data_count ls c + ancilla_count c ≡ length ls
unfolding data_count
wires_joined ls c (inl e) = omega (arith, ancilla_few c)
wires_joined ls c (inr e) = omega (arith, ancilla_few c)

-- A record that was read passes the circuit's checks.
pub record_sound : (d : Description) → well_formed d ≡ true → length d.lines ≤ 12 → circuit_code (record_of d) ≡ 0
unfolding well_formed record_of
record_sound d h few =
    let ls = d.letters in
    let c = d.constants in
    let p = both_parts (heading_ok ls c) (all_of (line_ok ls) d.lines) h in
    let w = data_width ls c p.0 in
    let n = name_count ls c p.0 in
    let gs = map (gate_byte ls) d.lines in
    let kept : all_of (lawful 2 (data_count ls c + ancilla_count c)) gs ≡ true = rw (wires_joined ls c w) (lines_lawful ls n.1 d.lines p.1) in
    circuit_kept (data_count ls c) (ancilla_count c) false (plain (data_count ls c)) gs (ancilla_few c) w (plain_ok (data_count ls c) w)
    (rw (length-map d.lines (gate_byte ls)) few) kept

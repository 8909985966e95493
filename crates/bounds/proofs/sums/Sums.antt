-- Sums that are closed under one gate more hold the cost and count of every list that the limit allows. Marking from place i writes nothing
-- up to i and takes no mark away, so what was closed below i stays so.
use mathlib.Core.Path.{◌≡◌, refl, sym, ◌∙◌, subst}
use mathlib.Core.Logic.{⊎_elim}
use mathlib.Core.List.Memᴰ
use mathlib.Core.List.{List, [], ◌∷◌, Memᴰ}
use Prim.Native.Nat.{ℕ, zero, suc, ◌+◌, ◌*◌, ◌≤◌, ◌<◌}
use native.Mathlib.Nat.{eq-or-lt_of_le}
use native.Mathlib.Omega.{arith}
use lib.ListN.{length, drop, get_or, length-set}
use lib.Seq.{get_or-set_same, get_or-set_other}
use Rattle.std.proofs.lemmas.List.{get_or-map, length-map}
use Rattle.logic.specs.Lists.{total, along, Among}
use Rattle.logic.proofs.Members.{among_head, among_tail}
use Rattle.logic.proofs.Fold.{along_more, along_done}
use Rattle.circuit.specs.Measure.{cost}
use Rattle.problem.specs.declared.Entry.{Entry}
use Rattle.problem.specs.Entries.{entry_prices}
use Rattle.bounds.specs.sums.Sums.{put, put_from, Extends, Marked}

module _ (price : ℕ → ℕ) (gates prices sums : List ℕ) (limit : ℕ) (priced : (g : ℕ) → Memᴰ g gates → Memᴰ (price g) prices)
    (few : limit ≤ 12) (m : Marked prices limit sums) where
  pub sums_marked : (e : List ℕ) → Among gates e → length e ≤ limit → 13 * cost price e + length e < length sums
      → 0 < get_or sums (13 * cost price e + length e) 0
  unfolding total
  sums_marked [] among short h = m.none h
  sums_marked (g ∷ e) among short h =
      let front = sums_marked e (among_tail among) (omega arith) (omega arith) in
      let turned : 13 * cost price e + length e + (13 * price g + 1) ≡ 13 * (price g + cost price e) + suc (length e) = omega arith in
      subst (λ (n : ℕ). 0 < get_or sums n 0) turned
      (m.more (13 * cost price e + length e) (price g) (priced g (among_head among)) (front, omega arith) (omega arith))

put_kept : (i : ℕ) (sums : List ℕ) (a : ℕ) → 0 < get_or sums a 0 → 0 < get_or (put i sums) a 0
unfolding put
put_kept i [] a h = h
put_kept zero (x ∷ l) zero h = omega arith
put_kept zero (x ∷ l) (suc a) h = h
put_kept (suc i) (x ∷ l) zero h = h
put_kept (suc i) (x ∷ l) (suc a) h = put_kept i l a h

pub put_length : (i : ℕ) (sums : List ℕ) → length (put i sums) ≡ length sums
unfolding put
put_length i sums = length-set sums i 1

put_marked : (i : ℕ) (sums : List ℕ) → i < length sums → 0 < get_or (put i sums) i 0
unfolding put
put_marked i sums h = rw (get_or-set_same sums i 1 0 h) (omega arith)

module _ (i : ℕ) where
  -- one turn of the loop over the entries, and its end
  pub from_turn : (entries : List Entry) (sums next : List ℕ) (k : ℕ) (d : Entry) → k < length entries
      → next ≡ put (i + (13 * (get_or entries k d).price + 1)) sums
      → put_from i (drop (k + 1) (entry_prices entries)) next ≡ put_from i (drop k (entry_prices entries)) sums
  unfolding put_from
  from_turn entries sums next k d h en =
      let at = get_or-map (λ (e : Entry). e.price) entries k d 0 h in
      let long = length-map entries (λ (e : Entry). e.price) in
      rw (en, ← at) (sym (along_more (λ c. put (i + (13 * c + 1))) (entry_prices entries) k 0 sums (omega arith)))

  pub from_done : (entries : List Entry) (sums : List ℕ) (k : ℕ) → length entries ≤ k → put_from i (drop k (entry_prices entries)) sums ≡ sums
  unfolding put_from
  from_done entries sums k h =
      let long = length-map entries (λ (e : Entry). e.price) in
      along_done (λ c. put (i + (13 * c + 1))) (entry_prices entries) k sums (omega arith)

  from_length : (prices sums : List ℕ) → length (put_from i prices sums) ≡ length sums
  unfolding put_from along
  from_length [] sums = refl
  from_length (c ∷ prices) sums = from_length prices (put (i + (13 * c + 1)) sums) ∙ put_length (i + (13 * c + 1)) sums

  from_below : (prices sums : List ℕ) (a : ℕ) → a ≤ i → get_or (put_from i prices sums) a 0 ≡ get_or sums a 0
  unfolding put_from along put
  from_below [] sums a h = refl
  from_below (c ∷ prices) sums a h =
      from_below prices (put (i + (13 * c + 1)) sums) a h ∙ get_or-set_other sums (i + (13 * c + 1)) a 1 0 (λ e. omega arith)

  from_kept : (prices sums : List ℕ) (a : ℕ) → 0 < get_or sums a 0 → 0 < get_or (put_from i prices sums) a 0
  unfolding put_from along
  from_kept [] sums a h = h
  from_kept (c ∷ prices) sums a h = from_kept prices (put (i + (13 * c + 1)) sums) a (put_kept (i + (13 * c + 1)) sums a h)

  from_marked : (prices sums : List ℕ) (c : ℕ) → Memᴰ c prices → i + (13 * c + 1) < length sums → 0 < get_or (put_from i prices sums) (i + (13 * c + 1)) 0
  unfolding put_from along
  from_marked [] sums c m h = absurd (Memᴰ.not-nil m)
  from_marked (b ∷ prices) sums c m h =
      ⊎_elim
      (λ (e : c ≡ b). rw (← e) (from_kept prices (put (i + (13 * c + 1)) sums) (i + (13 * c + 1)) (put_marked (i + (13 * c + 1)) sums h)))
      (λ n. from_marked prices (put (i + (13 * b + 1)) sums) c n (rw (put_length (i + (13 * b + 1)) sums) h))
      (Memᴰ.cases_cons m)

-- n sums with the empty list's place among them; from every place below i that leaves a gate of the limit, one gate more leads to a marked
-- place
pub record MarkedTo (prices : List ℕ) (limit n i : ℕ) (sums : List ℕ) : Type 0 where
  pub size : length sums ≡ n
  pub none : 0 < n → 0 < get_or sums 0 0
  pub more : (a c : ℕ) → a < i → Memᴰ c prices → Extends limit a (get_or sums a 0) → a + (13 * c + 1) < n → 0 < get_or sums (a + (13 * c + 1)) 0

module _ (prices : List ℕ) (limit : ℕ) where
  pub marked_first : (sums next : List ℕ) → next ≡ put 0 sums → MarkedTo prices limit (length next) 0 next
  marked_first sums next e =
      rw e record { size = refl; none = λ h. put_marked 0 sums (rw (put_length 0 sums) at h); more = λ a c h m f within. absurd (omega arith) }

  module _ (n i : ℕ) (sums : List ℕ) (to : MarkedTo prices limit n i sums) where
    pub marked_from : (next : List ℕ) → next ≡ put_from i prices sums → MarkedTo prices limit n (i + 1) next
    marked_from next e =
        rw e record { size = from_length i prices sums ∙ to.size; none = λ h. from_kept i prices sums 0 (to.none h); more = onward }
      where
        onward : (a c : ℕ) → a < i + 1 → Memᴰ c prices → Extends limit a (get_or (put_from i prices sums) a 0) → a + (13 * c + 1) < n
            → 0 < get_or (put_from i prices sums) (a + (13 * c + 1)) 0
        onward a c h m f within =
            let l = to.size in
            ⊎_elim
            (λ (e : a ≡ i). rw e (from_marked i prices sums c m (omega arith)))
            (λ (b : a < i).
            let same = from_below i prices sums a (omega arith) in
            from_kept i prices sums (a + (13 * c + 1)) (to.more a c b m (rw same at f) within))
            (eq-or-lt_of_le {n = a} {m = i} (omega arith))

    pub marked_skip : (next : List ℕ) → next ≡ sums → (Extends limit i (get_or sums i 0) → ⊥) → MarkedTo prices limit n (i + 1) next
    marked_skip next e full = rw e record { size = to.size; none = to.none; more = onward }
      where
        onward : (a c : ℕ) → a < i + 1 → Memᴰ c prices → Extends limit a (get_or sums a 0) → a + (13 * c + 1) < n → 0 < get_or sums (a + (13 * c + 1)) 0
        onward a c h m f within =
            ⊎_elim (λ (e : a ≡ i). absurd (full (rw e at f))) (λ (b : a < i). to.more a c b m f within) (eq-or-lt_of_le {n = a} {m = i} (omega arith))

    pub marked_done : n ≤ i → Marked prices limit sums
    marked_done h =
        let l = to.size in
        record { none = λ k. to.none (omega arith); more = λ a c m f within. by_place a c m f within }
      where
        by_place : (a c : ℕ) → Memᴰ c prices → Extends limit a (get_or sums a 0) → a + (13 * c + 1) < length sums → 0 < get_or sums (a + (13 * c + 1)) 0
        by_place a c m f within = let l = to.size in to.more a c (omega arith) m f (omega arith)

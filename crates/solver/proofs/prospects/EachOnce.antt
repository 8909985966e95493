-- Each gate of a list once: which bytes are marked, and the bytes that are.
use mathlib.Core.Path.{◌≡◌, refl, sym, ap, ◌∙◌, subst}
use mathlib.Core.Bool.{Bool, true, false, true≢false}
use mathlib.Core.Logic.{⊎_elim}
use mathlib.Core.List.Memᴰ
use mathlib.Core.List.{List, [], ◌∷◌, Memᴰ}
use Prim.Native.Nat.{ℕ, zero, suc, ◌+◌, ◌<◌}
use native.Mathlib.Nat.{eq-or-lt_of_le}
use native.Mathlib.Omega.{arith}
use lib.ListN.{length, get_or, take, set}
use lib.Seq.{get_or-set_same}
use Rattle.std.specs.List.{All}
use Rattle.std.proofs.lemmas.List.Elements.{All-more, All-weaker, All-head, All-tail}
use Rattle.logic.specs.Lists.{Among}
use Rattle.logic.proofs.Members.{among_cons}
use Rattle.problem.specs.declared.Entry.{Entry}
use Rattle.problem.specs.Entries.{entry_gates}
use Rattle.columns.specs.declared.Wanted.{Wanted}
use Rattle.bloom.specs.declared.hash.Reach.{Reach}
use Rattle.reach_filter.specs.fill.Sieve.{Sieve}
use Rattle.walk.proofs.node.Nodes.{longer}

mark_kept : (marks : List Bool) (i j : ℕ) → get_or marks j false ≡ true → get_or (set marks i true) j false ≡ true
mark_kept [] i j h = h
mark_kept (x ∷ marks) zero zero h = refl
mark_kept (x ∷ marks) zero (suc j) h = h
mark_kept (x ∷ marks) (suc i) zero h = h
mark_kept (x ∷ marks) (suc i) (suc j) h = mark_kept marks i j h

-- a gate byte is marked
abbrev pub Marked : List Bool → Entry → Type 0
Marked marks e = get_or marks e.gate false ≡ true

-- one entry more
pub marked_turn : (entries : List Entry) (i : ℕ) (d : Entry) (marks : List Bool) → i < length entries → (get_or entries i d).gate < length marks
    → All (Marked marks) (take i entries) → All (Marked (set marks (get_or entries i d).gate true)) (take (i + 1) entries)
marked_turn entries i d marks h k before =
    let next = set marks (get_or entries i d).gate true in
    All-more (Marked next) entries i d h
    (All-weaker (Marked marks) (Marked next) (λ e m. mark_kept marks (get_or entries i d).gate e.gate m) (take i entries) before)
    (get_or-set_same marks (get_or entries i d).gate true false k)

module _ (marks : List Bool) (bytes : List ℕ) (count g : ℕ)
    (before : (x : ℕ) → x < g → get_or marks x false ≡ true → Memᴰ x (take count bytes)) where
  -- a byte that is not marked, and one that is
  pub passed_turn : get_or marks g false ≡ false → (x : ℕ) → x < g + 1 → get_or marks x false ≡ true → Memᴰ x (take count bytes)
  passed_turn f x h m =
      ⊎_elim
      (λ (e : x ≡ g). absurd (true≢false (sym m ∙ ap (λ (n : ℕ). get_or marks n false) e ∙ f)))
      (λ (k : x < g). before x k m)
      (eq-or-lt_of_le {n = x} {m = g} (omega arith))

  pub kept_turn : count < length bytes → (x : ℕ) → x < g + 1 → get_or marks x false ≡ true → Memᴰ x (take (count + 1) (set bytes count g))
  kept_turn room x h m =
      subst (λ (l : List ℕ). Memᴰ x l) (sym (longer bytes count g room))
      (⊎_elim
      (λ (e : x ≡ g). Memᴰ.append_right (take count bytes) (Memᴰ.head e))
      (λ (k : x < g). Memᴰ.append_left (g ∷ []) (before x k m))
      (eq-or-lt_of_le {n = x} {m = g} (omega arith)))

-- the gates of entries are among bytes that hold the gate of each
pub gates_among : (entries : List Entry) (bytes : List ℕ) → All (λ (e : Entry). Memᴰ e.gate bytes) entries → Among bytes (entry_gates entries)
gates_among [] bytes each g m = absurd (Memᴰ.not-nil m)
gates_among (e ∷ entries) bytes each g m =
    among_cons (All-head (λ (e : Entry). Memᴰ e.gate bytes) e entries each)
    (gates_among entries bytes (All-tail (λ (e : Entry). Memᴰ e.gate bytes) e entries each)) g m

-- a filter for more gates serves
pub sieve_fewer : (bits : List ℕ) (reach : Reach) (gates more : List ℕ) (k : ℕ) (t : Wanted) (n free : ℕ) → Among more gates → Sieve bits reach more k t n free
    → Sieve bits reach gates k t n free
sieve_fewer bits reach gates more k t n free among sieve = record {
  seen = λ l e p a b finish short. sieve.seen l e p (λ x m. among x (a x m)) (λ x m. among x (b x m)) finish short;
}

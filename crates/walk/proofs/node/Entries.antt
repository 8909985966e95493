-- The entries of a posed problem are its gates: how many there are, which gate is at a place, and that its price and duration are its own.
use mathlib.Core.Path.{◌≡◌, sym, ap, ◌∙◌, subst}
use mathlib.Core.List.Memᴰ
use mathlib.Core.List.{List, Memᴰ}
use Prim.Native.Nat.{ℕ, ◌<◌}
use native.Mathlib.Omega.{arith}
use lib.ListN.{length, get_or}
use Rattle.std.proofs.lemmas.List.{get_or-map, length-map}
use Rattle.logic.proofs.Members.{place_of, member_at}
use Rattle.problem.specs.declared.Entry.{Entry}
use Rattle.problem.specs.Entries.{entry_prices}
use Rattle.problem.specs.Problems.{Problem}
use Rattle.walk.specs.declared.node.Task.{Task}
use Rattle.walk.specs.node.States.{Posed, Lists}

module _ (P : Problem) (task : Task) (entries : List Entry) (posed : Posed P task entries) where
  pub entry_count : length entries ≡ length P.gates
  entry_count = sym (length-map entries (λ (e : Entry). e.gate)) ∙ ap length posed.listed

  module _ (i : ℕ) where
    pub entry_place : i < length entries → i < length P.gates
    entry_place h = rw entry_count at h

    module _ (d : Entry) (h : i < length entries) where
      pub entry_gate : get_or P.gates i 0 ≡ (get_or entries i d).gate
      entry_gate = ap (λ (gs : List ℕ). get_or gs i 0) (sym posed.listed) ∙ get_or-map (λ (e : Entry). e.gate) entries i d 0 h

      pub entry_lists : Lists P (get_or entries i d)
      entry_lists = record {
        listed = subst (λ (g : ℕ). Memᴰ g P.gates) entry_gate (member_at P.gates i (entry_place h));
        priced = posed.priced i d h;
        timed = posed.timed i d h;
      }

  -- the place of a gate
  pub entry_of : (g : ℕ) (d : Entry) → Memᴰ g P.gates → (i : ℕ) × ((i < length entries) × ((get_or entries i d).gate ≡ g))
  entry_of g d m =
      let q = place_of g P.gates m in
      let h : q.0 < length entries = rw entry_count q.1.0 in
      (q.0, (h, sym (entry_gate q.0 d h) ∙ q.1.1))

  -- each gate's price is that of an entry
  pub entry_price : (g : ℕ) → Memᴰ g P.gates → Memᴰ (P.price g) (entry_prices entries)
  entry_price g m =
      let none : Entry = record { gate = 0; price = 0; duration = 0 } in
      let q = entry_of g none m in
      let long = length-map entries (λ (e : Entry). e.price) in
      Memᴰ.cast
      (sym (get_or-map (λ (e : Entry). e.price) entries q.0 none 0 q.1.0 ∙ posed.priced q.0 none q.1.0 ∙ ap P.price q.1.1))
      (member_at (entry_prices entries) q.0 (omega (arith, q.1.0)))

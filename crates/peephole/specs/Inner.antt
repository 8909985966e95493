-- What the search found for a window, and what a scan of a list found: for private contracts. No public contract cites this.
use Rattle.std.specs.Prelude.{◌≡◌, List, ℕ, ◌+◌, ◌≤◌, length, take, drop, Some, None}
use Rattle.std.specs.Prelude as prelude
use Rattle.std.proofs.Math.Option.{Option, none, some}
use Rattle.peephole.specs.windows.Windows.{window_at, replaced}
use Rattle.peephole.specs.windows.Inner.{Still}
use Rattle.peephole.specs.declared.hits.Offer.{Offer}
use Rattle.peephole.specs.declared.hits.Hit.{Hit}

-- the gates of an offer
abbrev pub gates_in : Offer → List ℕ
gates_in o = take o.len (drop 3 o.bytes)

-- the gates that were found, where they are cheaper
unfoldable pub offered : prelude.Option Offer → Option (List ℕ)
offered None = none
offered (Some o) = some (gates_in o)

-- a hit is the first window that yields, with the gates that replace it
pub record First (yields : List ℕ → Option (List ℕ)) (k : ℕ) (l : List ℕ) (h : Hit) : Type 0 where
  pub fits : h.at + k ≤ length l
  pub before : Still yields k h.at l
  pub yielded : yields (window_at k h.at l) ≡ some (gates_in h.offer)

-- the result of a scan of the whole list: a hit is the first window that yields, and without a hit no window yields
abbrev pub Scanned : (List ℕ → Option (List ℕ)) → ℕ → List ℕ → prelude.Option Hit → Type 0
Scanned yields k l None = replaced yields k l ≡ none
Scanned yields k l (Some h) = First yields k l h

-- What a scan from the left knows on its way, for private contracts. No public contract cites this.
use Rattle.std.specs.Prelude.{◌≡◌, List, ℕ, ◌+◌, ◌≤◌, ◌<◌, length}
use Rattle.std.proofs.Math.Option.{Option, none}
use Rattle.peephole.specs.windows.Windows.{window_at}

-- no window that begins before gate i yields
abbrev pub Still : (List ℕ → Option (List ℕ)) → ℕ → ℕ → List ℕ → Type 0
Still yields k i l = (j : ℕ) → j < i → j + k ≤ length l → yields (window_at k j l) ≡ none

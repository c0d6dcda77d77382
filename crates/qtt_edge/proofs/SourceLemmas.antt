-- What is left of a list of bytes after a front of it was copied.
use Rattle.std.proofs.Common.{◌≡◌, ℕ, ◌+◌, ◌-◌, ◌≤◌, List, ◌++◌, length, take, drop, sym, ap, ◌∙◌, arith}
use Rattle.std.proofs.lemmas.List.{take-append-drop, length-take, length-drop, drop-drop}
use Rattle.std.proofs.Math.Seq.{take-append_seam, take-length}

-- the bytes from at on are those that were copied, and then those behind them
pub copied_front : (all copied rest : List ℕ) (at count : ℕ) → copied ≡ take count (drop at all) →
    count ≤ length (drop at all) → drop at all ≡ take count (copied ++ rest) ++ drop (at + count) all
copied_front all copied rest at count is within =
    let len : length copied ≡ count = ap length is ∙ (length-take count (drop at all) ∙ omega arith) in
    let front : take count (copied ++ rest) ≡ copied = rw (← len) (take-append_seam copied rest) in
    let back : drop (at + count) all ≡ drop count (drop at all) = sym (drop-drop count at all) in
    rw (front, back, is) (sym (take-append-drop count (drop at all)))

-- a slice from at on, as the code takes it
pub rest_from : (all : List ℕ) (at : ℕ) → take (length all - at) (drop at all) ≡ drop at all
rest_from all at = rw (← length-drop at all) (take-length (drop at all))

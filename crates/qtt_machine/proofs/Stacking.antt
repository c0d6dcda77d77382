-- Stacks from which values were dropped.
use Rattle.std.proofs.Common.{◌≡◌, ℕ, suc, ◌+◌, ◌-◌, ◌<◌, ◌≤◌, List, ◌∷◌, Some, length, take, drop, get_or, reverse, sym, ◌∙◌, ap, arith, length-drop}
use Rattle.std.specs.List.{slice_get}
use Rattle.std.proofs.Math.ListN.{get_or-map}
use Rattle.std.proofs.lemmas.List.{take-take, take-map, drop-take, length-map, length-reverse, get_or-reverse, get_or-drop}
use Rattle.std.proofs.lemmas.Option.{slice_get-get_or}
use Rattle.qtt_code.specs.Machine.{in_frame, left_with, onward, with_locals}
use Rattle.qtt_value.specs.declared.val.Val.{Val}
use Rattle.qtt_value.specs.View.{value, values}
use Rattle.qtt_machine.specs.declared.frames.Frame as code_frame
use Rattle.qtt_machine.specs.View.{frame, frames, state_over}
use Rattle.qtt_machine.specs.Stacks.{InOrder}
use Rattle.qtt_machine.proofs.Taking.{own-length, forgotten_top}

module _ (L S T : List Val) (f : code_frame.Frame) (fs : List code_frame.Frame) (k n : ℕ)
    (order : InOrder (f ∷ fs) (length L) (length S))
    (h : k ≤ length (reverse (values (drop f.pushed S)))) (t : T ≡ take (n - k) S) (e : n ≡ length S) where
  is_taken : T ≡ take (length S - k) S
  is_taken = t ∙ ap (λ j. take (j - k) S) e

  base : f.pushed ≤ length S - k
  base = let a = own-length S f.pushed in let o = order.0.1 in omega (arith, a, h, o)

  pub forgotten : state_over L T f fs ≡ in_frame
      (left_with (drop k (reverse (values (drop f.pushed S)))) (frame L S f)) (state_over L S f fs)
  forgotten =
      ap (λ U. state_over L U f fs) is_taken
      ∙ ap (λ vs. in_frame (left_with vs (frame L S f)) (state_over L (take (length S - k) S) f fs))
      (forgotten_top S f.pushed k h order.0.1)
      ∙ ap (λ U. record {
        frame = left_with (drop k (reverse (values (drop f.pushed S)))) (frame L S f);
        waiting = frames (take f.locals L) U fs;
      }) (take-take f.pushed (length S - k) S base)

-- ---- locals that were dropped
module _ (L S M : List Val) (f : code_frame.Frame) (fs : List code_frame.Frame) (k m p : ℕ)
    (order : InOrder (f ∷ fs) (length L) (length S))
    (t : M ≡ take (f.locals + m) L) (e : m ≡ (length L - f.locals) - k) (q : p ≡ suc f.place) where
  own-locals : length (values (drop f.locals L)) - k ≡ m
  own-locals = let a = length-map (drop f.locals L) value in let b = length-drop f.locals L in omega (arith, a, b, e)

  kept : values (drop f.locals M) ≡ take (length (values (drop f.locals L)) - k) (values (drop f.locals L))
  kept =
      ap (λ U. values (drop f.locals U)) t
      ∙ ap values (drop-take f.locals m L)
      ∙ sym (take-map value m (drop f.locals L))
      ∙ ap (λ j. take j (values (drop f.locals L))) (sym own-locals)

  below : take f.locals M ≡ take f.locals L
  below = ap (take f.locals) t ∙ take-take f.locals (f.locals + m) L (omega arith)

  pub locals_dropped :
      state_over M S (record f { place = p }) fs
      ≡ in_frame (onward (with_locals (take (length (values (drop f.locals L)) - k) (values (drop f.locals L)))
      (frame L S f))) (state_over L S f fs)
  locals_dropped =
      ap (λ j. state_over M S (record f { place = j }) fs) q
      ∙ ap (λ vs. in_frame (onward (with_locals vs (frame L S f))) (state_over M S f fs)) kept
      ∙ ap (λ U. record {
        frame = onward (with_locals (take (length (values (drop f.locals L)) - k) (values (drop f.locals L)))
            (frame L S f));
        waiting = frames U (take f.pushed S) fs;
      }) below

-- ---- the newest values
pub newest_is : (S : List Val) (b k n : ℕ) (v : Val) → b ≤ length S → k < length (reverse (values (drop b S))) →
    n ≡ length S → v ≡ get_or S (n - 1 - k) v →
    slice_get (reverse (values (drop b S))) k ≡ Some (value v)
newest_is S b k c v h p q e =
    let n = length-reverse (values (drop b S)) in
    let m = length-map (drop b S) value in
    let l = length-drop b S in
    let i : b + (length (values (drop b S)) - 1 - k) ≡ c - 1 - k = omega (arith, n, m, l, p, h, q) in
    slice_get-get_or (reverse (values (drop b S))) k (value v) p
    ∙ ap Some
    (get_or-reverse (values (drop b S)) k (value v) (omega (arith, n, p))
    ∙ get_or-map value (drop b S) (length (values (drop b S)) - 1 - k) v
    ∙ ap value (get_or-drop b S (length (values (drop b S)) - 1 - k) v ∙ ap (λ j. get_or S j v) i ∙ sym e))

-- What an application of a name answers, from whether its slots are filled.
use Rattle.std.proofs.Common.{◌≡◌, refl, ap, sym, ℕ, ◌+◌, ◌-◌, ◌<◌, ◌≤◌, arith, Bool, true, false, List, [], ◌∷◌, ◌++◌, map, length, sum_by, Option, Some, None, Result, Ok, Err, nat_le}
use Rattle.qtt_base.specs.declared.place.Span.{Span}
use Rattle.qtt_syntax.specs.declared.expr.Named.{Named}
use Rattle.qtt_syntax.specs.Tree.{Tree, Argument, Arguments, arguments}
use Rattle.qtt_syntax.specs.Tree.Tree.{name, apply}
use Rattle.qtt_syntax.specs.Tree.Arguments.{no_argument, argument_and}
use Rattle.qtt_names.specs.Exports.{Sig}
use Rattle.qtt_implicit.specs.Matching.{Slots}
use Rattle.qtt_implicit.specs.Filling.{Stop, Filling, done, put, goes_on, ◌>>=◌}
use Rattle.qtt_implicit.specs.Walk.{Walked, walked, Given, application, behind_binders, binder_names, open_slots, given_to, brace_slots, slot_argument, slot_arguments, few_braces, inserted_nodes, at_slots, applied, applied_local, plainly_applied, in_braces, not_in_braces, given_argument}
use Rattle.qtt_implicit.specs.Meeting.{IsStop}
use Rattle.qtt_implicit.specs.Solving.{first_unsolved, solved, in_front}
use Rattle.qtt_implicit.specs.declared.filling.stop.Stop as stop_code
use Rattle.qtt_implicit.specs.declared.filling.stop.Stop.TheVariants as code

-- ---- slots of binders in braces
pub solves : (s : Span) (k : ℕ) (xs : List (List ℕ)) (ts : List (Option Tree)) (left : ℕ) →
    first_unsolved xs ts ≡ None → slot_arguments s k xs ts left ≡ Ok (solved s k xs ts, left)
unfolding ◌>>=◌
solves s k [] ts left e = refl
solves s k (x ∷ xs) [] left e = refl
solves s k (x ∷ xs) (None ∷ ts) left e = absurd cc
solves s k (x ∷ xs) (Some t ∷ ts) left e =
    ap (λ (r : Result (List Argument × ℕ) Stop). goes_on r (λ more. done (slot_argument s k t ∷ more)))
    (solves s (k - 1) xs ts left e)

pub stops : (s : Span) (k : ℕ) (xs : List (List ℕ)) (ts : List (Option Tree)) (x : List ℕ) (left : ℕ) →
    first_unsolved xs ts ≡ Some x → slot_arguments s k xs ts left ≡ Err (Stop.unsolved x s)
unfolding ◌>>=◌
stops s k [] ts y left e = absurd cc
stops s k (x ∷ xs) [] y left e = absurd cc
stops s k (x ∷ xs) (None ∷ ts) y left e =
    let same : x ≡ y = cc in
    ap (λ (z : List ℕ). let r : Result (List Argument × ℕ) Stop = Err (Stop.unsolved z s) in r) same
stops s k (x ∷ xs) (Some t ∷ ts) y left e =
    ap (λ (r : Result (List Argument × ℕ) Stop). goes_on r (λ more. done (slot_argument s k t ∷ more)))
    (stops s (k - 1) xs ts y left e)

-- ---- a stop of the first of two is the stop of both
pub stop_goes_on : {A B : Type 0} (e : stop_code.Stop) (o : Result (A × ℕ) Stop) (f : A → Filling B) →
    IsStop e o → IsStop e (goes_on o f)
stop_goes_on (code.Unsolved n s) o f h = ap (λ r. goes_on r f) h
stop_goes_on (code.Braces k m s) o f h = ap (λ r. goes_on r f) h
stop_goes_on code.TooLarge o f h = ap (λ r. goes_on r f) h
stop_goes_on code.Memory o f h = tt

-- the arguments of a name whose slots are filled
abbrev pub brace_names : Sig → List (List ℕ)
brace_names S = binder_names S.braces (behind_binders S.params S.type)

abbrev pub filled_arguments : Sig → Named → List Given → Slots → List Argument
filled_arguments S n xs σ = solved n.span (length (in_braces xs)) (brace_names S) (brace_slots S σ)

abbrev pub with_arguments : Sig → Named → List Given → Span → Slots × Tree → Walked
with_arguments S n xs s r =
    walked (application (name n) (filled_arguments S n xs r.0 ++ map given_argument (not_in_braces xs)) s) r.1

pub at_slots_unsolved : (S : Sig) (n : Named) (xs : List Given) (s : Span) (r : Slots × Tree) (x : List ℕ) (left : ℕ) →
    first_unsolved (brace_names S) (brace_slots S r.0) ≡ Some x →
    at_slots S n xs s r left ≡ Err (Stop.unsolved x n.span)
unfolding ◌>>=◌
at_slots_unsolved S n xs s r x left e =
    ap (λ (o : Result (List Argument × ℕ) Stop). goes_on o (λ filled.
    put (sum_by inserted_nodes filled) >>= λ added.
    done (walked (application (name n) (filled ++ map given_argument (not_in_braces xs)) s) r.1)))
    (stops n.span (length (in_braces xs)) (brace_names S) (brace_slots S r.0) x left e)

pub at_slots_put : (S : Sig) (n : Named) (xs : List Given) (s : Span) (r : Slots × Tree) (left : ℕ) →
    first_unsolved (brace_names S) (brace_slots S r.0) ≡ None →
    at_slots S n xs s r left ≡
    goes_on (put (sum_by inserted_nodes (filled_arguments S n xs r.0)) left) (λ added. done (with_arguments S n xs s r))
unfolding ◌>>=◌
at_slots_put S n xs s r left e =
    ap (λ (o : Result (List Argument × ℕ) Stop). goes_on o (λ filled.
    put (sum_by inserted_nodes filled) >>= λ added.
    done (walked (application (name n) (filled ++ map given_argument (not_in_braces xs)) s) r.1)))
    (solves n.span (length (in_braces xs)) (brace_names S) (brace_slots S r.0) left e)

-- ---- braces
few : (k m : ℕ) → k ≤ m → nat_le k m ≡ true
few k m h = by (nat_le k m) refl
  where
    by : (b : Bool) → nat_le k m ≡ b → b ≡ true
    by true e = refl
    by false e = absurd (grind (arith, e, h))

many : (k m : ℕ) → m < k → nat_le k m ≡ false
many k m h = by (nat_le k m) refl
  where
    by : (b : Bool) → nat_le k m ≡ b → b ≡ false
    by true e = absurd (grind (arith, e, h))
    by false e = refl

pub few_braces_fit : (most : ℕ) (ts : List Tree) (s : Span) (left : ℕ) → length ts ≤ most →
    few_braces most ts s left ≡ Ok (tt, left)
few_braces_fit most ts s left h = let e = few (length ts) most h in rw e refl

pub many_braces_stop : (most : ℕ) (ts : List Tree) (s : Span) (left : ℕ) → most < length ts →
    few_braces most ts s left ≡ Err (Stop.braces most (length ts) s)
many_braces_stop most ts s left h = let e = many (length ts) most h in rw e refl

abbrev pub slots_and_type : Sig → List Given → Slots × Tree
slots_and_type S xs =
    given_to (open_slots S (in_braces xs)) (behind_binders (S.params + S.braces) S.type) (not_in_braces xs)

pub applied_braces : (S : Sig) (n : Named) (xs : List Given) (s : Span) (left : ℕ) → S.braces < length (in_braces xs) →
    applied S n xs s left ≡ Err (Stop.braces S.braces (length (in_braces xs)) n.span)
unfolding ◌>>=◌
applied_braces S n xs s left h =
    ap (λ (o : Result (Unit {0} × ℕ) Stop). goes_on o (λ fits. at_slots S n xs s (slots_and_type S xs)))
    (many_braces_stop S.braces (in_braces xs) n.span left h)

pub applied_fits : (S : Sig) (n : Named) (xs : List Given) (s : Span) (left : ℕ) → length (in_braces xs) ≤ S.braces →
    applied S n xs s left ≡ at_slots S n xs s (slots_and_type S xs) left
unfolding ◌>>=◌
applied_fits S n xs s left h =
    ap (λ (o : Result (Unit {0} × ℕ) Stop). goes_on o (λ fits. at_slots S n xs s (slots_and_type S xs)))
    (few_braces_fit S.braces (in_braces xs) n.span left h)

pub local_braces : (T : Tree) (n : Named) (xs : List Given) (s : Span) (left : ℕ) → 0 < length (in_braces xs) →
    applied_local T n xs s left ≡ Err (Stop.braces 0 (length (in_braces xs)) n.span)
unfolding ◌>>=◌
local_braces T n xs s left h =
    ap (λ (o : Result (Unit {0} × ℕ) Stop). goes_on o (λ fits. done (plainly_applied (name n) T xs s)))
    (many_braces_stop 0 (in_braces xs) n.span left h)

pub local_fits : (T : Tree) (n : Named) (xs : List Given) (s : Span) (left : ℕ) → length (in_braces xs) ≤ 0 →
    applied_local T n xs s left ≡ Ok (plainly_applied (name n) T xs s, left)
unfolding ◌>>=◌
local_fits T n xs s left h =
    ap (λ (o : Result (Unit {0} × ℕ) Stop). goes_on o (λ fits. done (plainly_applied (name n) T xs s)))
    (few_braces_fit 0 (in_braces xs) n.span left h)

-- ---- nodes that are put in
pub put_fits : (n left : ℕ) → n ≤ left → put n left ≡ Ok (tt, left - n)
put_fits n left h = let e = few n left h in rw e refl

pub put_stops : (n left : ℕ) → left < n → put n left ≡ Err Stop.too_large
put_stops n left h = let e = many n left h in rw e refl

-- ---- rows
pub front_of_row : (xs ys : List Argument) → in_front xs (arguments ys) ≡ arguments (xs ++ ys)
front_of_row [] ys = refl
front_of_row (x ∷ xs) ys = ap (argument_and x) (front_of_row xs ys)

pub applied_to : (f : Tree) (xs : List Argument) (s : Span) (a : Argument) (r : Arguments) →
    argument_and a r ≡ arguments xs → application f xs s ≡ apply f (argument_and a r) s
applied_to f [] s a r e = absurd cc
applied_to f (x ∷ xs) s a r e = ap (λ (ys : Arguments). apply f ys s) (sym e)

pub not_applied : (f : Tree) (xs : List Argument) (s : Span) → no_argument ≡ arguments xs → application f xs s ≡ f
not_applied f [] s e = refl
not_applied f (x ∷ xs) s e = absurd cc

-- Faults that are passed on.
use Rattle.std.proofs.Common.{◌≡◌, ◌∙◌, Result, Ok, Err, IsErrAnd, ap, sym, subst}
use Rattle.qtt_names.specs.declared.errors.NamesError.{NamesError}
use Rattle.qtt_names.specs.declared.errors.NamesError.TheVariants.{Fault, Memory}
use Rattle.qtt_names.specs.Answer.{Answer, ◌>>=◌}
use Rattle.qtt_names.specs.View.{Gives, seen}
use Rattle.qtt_names.proofs.Steps.{ok_then, err_then}

-- the error is want of memory, or the answer's fault
abbrev pub Fails : {B : Type 0} → NamesError → Answer B → Type 0
Fails Memory m = Unit {0}
Fails (Fault f) m = m ≡ Err (seen f)

pub fails : {A B : Type 0} (view : A → B) (e : NamesError) (m : Answer B) → Gives view (Err e) m → Fails e m
fails view Memory m h = tt
fails view (Fault f) m h = h

told : {A B : Type 0} (view : A → B) (e : NamesError) (m : Answer B) → Fails e m → Gives view (Err e) m
told view Memory m h = tt
told view (Fault f) m h = h

-- the error that a question mark passes on
pub passed : {A B : Type 0} (view : A → B) (r : Result A NamesError) (e : NamesError) (m : Answer B) →
    IsErrAnd r (λ y. y ≡ e) → Fails e m → Gives view r m
passed view (Ok a) e m h f = absurd h
passed view (Err y) e m h f = subst (λ (z : NamesError). Gives view (Err z) m) (sym h) (told view e m f)

-- the first part fails
pub here : {A B : Type 0} (e : NamesError) (m : Answer A) (k : A → Answer B) → Fails e m → Fails e (m >>= k)
here Memory m k h = tt
here (Fault f) m k h = ap (λ (r : Answer _). r >>= k) h ∙ err_then (seen f) k

-- the first part is found, and a later one fails
pub later : {A B : Type 0} (e : NamesError) (m : Answer A) (k : A → Answer B) (a : A) → m ≡ Ok a → Fails e (k a) →
    Fails e (m >>= k)
later Memory m k a h f = tt
later (Fault g) m k a h f = ap (λ (r : Answer _). r >>= k) h ∙ ok_then a k ∙ f

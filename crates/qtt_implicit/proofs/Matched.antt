-- Forms of text types, and what is matched with them.
use Rattle.std.proofs.Common.{◌≡◌, ◌∙◌, refl, ap, sym, ℕ, suc, Bool, true, false, List, [], ◌∷◌, map, Option, None, if◌then◌else◌, nat_eq}
use Rattle.qtt_base.specs.declared.place.GlobalId.{GlobalId}
use Rattle.qtt_base.specs.declared.place.Span.{Span}
use Rattle.qtt_syntax.specs.declared.expr.Mark.{Mark}
use Rattle.qtt_syntax.specs.declared.expr.Target.{Target}
use Rattle.qtt_syntax.specs.declared.expr.Target.TheVariants as target
use Rattle.qtt_syntax.specs.Tree.{Tree, Arguments}
use Rattle.qtt_syntax.specs.Tree.Tree.{name, number, text, universe, hole, the, apply, pi, lambda, letting, doing}
use Rattle.qtt_syntax.specs.Tree.Argument.{argument}
use Rattle.qtt_syntax.specs.Tree.Arguments.{no_argument, argument_and}
use Rattle.qtt_implicit.specs.Moving.{Change, changed_arguments, unknown}
use Rattle.qtt_implicit.specs.Matching.{Slots, argument_count, matched, matched_arguments, codomain, codomains, instance}
use Rattle.qtt_implicit.specs.Walk.{Given, given_to, given_tree, is_written, is_braced, is_io, not_in_braces, in_braces, result_type}
use Rattle.qtt_implicit.specs.Slots.{Form, form, global_of}
use Rattle.qtt_implicit.specs.Slots.{moving, replacing, slot_list, stands}
use Rattle.qtt_implicit.specs.TextTypes.{is_applied, global_name, arguments_in, given_by}
use Rattle.qtt_implicit.specs.declared.filling.slots.Shared.{Shared}
use Rattle.qtt_implicit.proofs.Back.{filter_yes, filter_no}

-- ---- forms
abbrev pub form_applied : Form → Bool
form_applied Form.applied = true
form_applied (Form.named g) = false
form_applied Form.function = false
form_applied Form.other = false

abbrev pub form_function : Form → Bool
form_function Form.function = true
form_function (Form.named g) = false
form_function Form.applied = false
form_function Form.other = false

abbrev pub form_global : Form → Option GlobalId
form_global (Form.named g) = g
form_global Form.applied = None
form_global Form.function = None
form_global Form.other = None

pub applied_by_form : (t : Tree) → is_applied t ≡ form_applied (form t)
applied_by_form (name n) = refl
applied_by_form (number z s) = refl
applied_by_form (text v s) = refl
applied_by_form (universe l ls s) = refl
applied_by_form (hole n s) = refl
applied_by_form (the t e s) = refl
applied_by_form (apply f xs s) = refl
applied_by_form (pi k m n a b s) = refl
applied_by_form (lambda bs b s) = refl
applied_by_form (letting m n t e b s) = refl
applied_by_form (doing ss s) = refl

pub global_by_form : (t : Tree) → global_name t ≡ form_global (form t)
global_by_form (name n) = refl
global_by_form (number z s) = refl
global_by_form (text v s) = refl
global_by_form (universe l ls s) = refl
global_by_form (hole n s) = refl
global_by_form (the t e s) = refl
global_by_form (apply f xs s) = refl
global_by_form (pi k m n a b s) = refl
global_by_form (lambda bs b s) = refl
global_by_form (letting m n t e b s) = refl
global_by_form (doing ss s) = refl

pub same_applied : (t u : Tree) → form t ≡ form u → is_applied t ≡ is_applied u
same_applied t u e = applied_by_form t ∙ ap form_applied e ∙ sym (applied_by_form u)

pub same_global : (t u : Tree) → form t ≡ form u → global_name t ≡ global_name u
same_global t u e = global_by_form t ∙ ap form_global e ∙ sym (global_by_form u)

-- what is no function's type has no codomain
pub no_codomain : (t x : Tree) → form_function (form t) ≡ false → codomain t x ≡ unknown
no_codomain (name n) x e = refl
no_codomain (number z s) x e = refl
no_codomain (text v s) x e = refl
no_codomain (universe l ls s) x e = refl
no_codomain (hole n s) x e = refl
no_codomain (the t v s) x e = refl
no_codomain (apply f xs s) x e = refl
no_codomain (pi k m n a b s) x e = absurd cc
no_codomain (lambda bs b s) x e = refl
no_codomain (letting m n t v b s) x e = refl
no_codomain (doing ss s) x e = refl

-- ---- matching
pub unmatched : (f : Tree) (xs : Arguments) (s : Span) (t : Tree) (σ : Slots) → is_applied t ≡ false →
    matched (apply f xs s) t σ ≡ σ
unmatched f xs s (name n) σ e = refl
unmatched f xs s (number z r) σ e = refl
unmatched f xs s (text v r) σ e = refl
unmatched f xs s (universe l ls r) σ e = refl
unmatched f xs s (hole n r) σ e = refl
unmatched f xs s (the t v r) σ e = refl
unmatched f xs s (apply g ys r) σ e = absurd cc
unmatched f xs s (pi k m n a b r) σ e = refl
unmatched f xs s (lambda bs b r) σ e = refl
unmatched f xs s (letting m n t v b r) σ e = refl
unmatched f xs s (doing ss r) σ e = refl

pub count_same : (c : Change) (d : ℕ) (xs : Arguments) → argument_count (changed_arguments c d xs) ≡ argument_count xs
count_same c d no_argument = refl
count_same c d (argument_and x more) = ap suc (count_same c d more)

pub count_in : (s : Shared) (xs : Arguments) → argument_count (arguments_in s xs) ≡ argument_count xs
count_in s xs =
    count_same (moving s.moved) 0 (changed_arguments (replacing (stands s.rest (slot_list s.slots.now))) 0 xs)
    ∙ count_same (replacing (stands s.rest (slot_list s.slots.now))) 0 xs

-- two applications of as many arguments, and of others
pub matched_applied : (f g : Tree) (xs ys : Arguments) (s r : Span) (u : Tree) (σ : Slots) → u ≡ apply g ys r →
    nat_eq (argument_count xs) (argument_count ys) ≡ true →
    matched (apply f xs s) u σ ≡ matched_arguments xs ys (matched f g σ)
matched_applied f g xs ys s r u σ e h =
    ap (λ (v : Tree). matched (apply f xs s) v σ) e
    ∙ ap (λ (b : Bool). if b then matched_arguments xs ys (matched f g σ) else σ) h

pub matched_uneven : (f g : Tree) (xs ys : Arguments) (s r : Span) (u : Tree) (σ : Slots) → u ≡ apply g ys r →
    nat_eq (argument_count xs) (argument_count ys) ≡ false → matched (apply f xs s) u σ ≡ σ
matched_uneven f g xs ys s r u σ e h =
    ap (λ (v : Tree). matched (apply f xs s) v σ) e
    ∙ ap (λ (b : Bool). if b then matched_arguments xs ys (matched f g σ) else σ) h

pub unmatched_arguments : (xs : Arguments) (σ : Slots) → matched_arguments xs no_argument σ ≡ σ
unmatched_arguments no_argument σ = refl
unmatched_arguments (argument_and x more) σ = refl

-- ---- arguments that are given
pub none_given : (σ : Slots) (t : Tree) → given_to σ t [] ≡ (σ, instance σ t)
none_given σ (name n) = refl
none_given σ (number z s) = refl
none_given σ (text v s) = refl
none_given σ (universe l ls s) = refl
none_given σ (hole n s) = refl
none_given σ (the t e s) = refl
none_given σ (apply f xs s) = refl
none_given σ (pi k m n a b s) = refl
none_given σ (lambda bs b s) = refl
none_given σ (letting m n t e b s) = refl
none_given σ (doing ss s) = refl

pub given_to_end : (σ : Slots) (t : Tree) (xs : List Given) → form_function (form t) ≡ false →
    given_to σ t xs ≡ (σ, codomains (instance σ t) (map given_tree xs))
given_to_end σ (name n) xs e = refl
given_to_end σ (number z s) xs e = refl
given_to_end σ (text v s) xs e = refl
given_to_end σ (universe l ls s) xs e = refl
given_to_end σ (hole n s) xs e = refl
given_to_end σ (the t v s) xs e = refl
given_to_end σ (apply f ys s) xs e = refl
given_to_end σ (pi k m n a b s) xs e = absurd cc
given_to_end σ (lambda bs b s) xs e = refl
given_to_end σ (letting m n t v b s) xs e = refl
given_to_end σ (doing ss s) xs e = refl

pub written_given : (g : Given) (gs : List Given) → is_written g.mark ≡ true →
    not_in_braces (g ∷ gs) ≡ g ∷ not_in_braces gs
written_given g gs e = filter_yes (λ (x : Given). is_written x.mark) g gs e

pub unwritten_given : (g : Given) (gs : List Given) → is_written g.mark ≡ false →
    not_in_braces (g ∷ gs) ≡ not_in_braces gs
unwritten_given g gs e = filter_no (λ (x : Given). is_written x.mark) g gs e

pub braced_given : (g : Given) (gs : List Given) → is_braced g.mark ≡ true →
    in_braces (g ∷ gs) ≡ g.tree ∷ in_braces gs
braced_given g gs e = ap (map given_tree) (filter_yes (λ (x : Given). is_braced x.mark) g gs e)

pub unbraced_given : (g : Given) (gs : List Given) → is_braced g.mark ≡ false →
    in_braces (g ∷ gs) ≡ in_braces gs
unbraced_given g gs e = ap (map given_tree) (filter_no (λ (x : Given). is_braced x.mark) g gs e)

-- ---- what actions give
by_target : (g : Target) (t : Tree) → (if is_io g then t else unknown) ≡ given_by (global_of g) t
by_target (target.Local i) t = refl
by_target (target.Global id) t = refl
by_target target.Unknown t = refl

pub one_given : (f : Tree) (k : Mark) (t : Tree) (s : Span) →
    result_type (apply f (argument_and (argument k t) no_argument) s) ≡ given_by (global_name f) t
one_given (name n) k t s = by_target n.target t
one_given (number z r) k t s = refl
one_given (text v r) k t s = refl
one_given (universe l ls r) k t s = refl
one_given (hole n r) k t s = refl
one_given (the u v r) k t s = refl
one_given (apply f xs r) k t s = refl
one_given (pi l m n a c r) k t s = refl
one_given (lambda bs c r) k t s = refl
one_given (letting m n u v c r) k t s = refl
one_given (doing ss r) k t s = refl

-- What is walked is forgotten back.
use Rattle.std.proofs.Common.{◌≡◌, ◌∙◌, refl, ap, sym, subst, ℕ, zero, suc, ◌+◌, ◌-◌, ◌≤◌, arith, List, [], ◌∷◌, ◌++◌, map, filter, length, Option, Some, None, if◌then◌else◌, Bool, true, false, nat_le, Ok, Err}
use mathlib.Core.Path.{ap₂}
use Rattle.qtt_base.specs.declared.place.Span.{Span}
use Rattle.qtt_syntax.specs.declared.expr.Mark.{Mark}
use Rattle.qtt_syntax.specs.declared.expr.Mark.TheVariants.{Written, Braced, Inserted}
use Rattle.qtt_syntax.specs.declared.expr.Named.{Named}
use Rattle.qtt_syntax.specs.declared.expr.Target.{Target}
use Rattle.qtt_syntax.specs.declared.expr.Target.TheVariants as target
use Rattle.qtt_syntax.specs.Tree.{Tree, Annotation, Argument, Arguments, Binder, Binders, Statement, Statements, arguments}
use Rattle.qtt_syntax.specs.Tree.Tree.{name, number, text, universe, hole, the, apply, pi, lambda, letting, doing}
use Rattle.qtt_syntax.specs.Tree.Annotation.{untyped, typed}
use Rattle.qtt_syntax.specs.Tree.Argument.{argument}
use Rattle.qtt_syntax.specs.Tree.Arguments.{no_argument, argument_and}
use Rattle.qtt_syntax.specs.Tree.Binder.{plain, typed_binder}
use Rattle.qtt_syntax.specs.Tree.Binders.{no_binder, binder_and}
use Rattle.qtt_syntax.specs.Tree.Statement.{bind, local, run}
use Rattle.qtt_syntax.specs.Tree.Statements.{no_statement, statement_and}
use Rattle.qtt_names.specs.Exports.{Sig}
use Rattle.qtt_implicit.specs.Moving.{unknown, weighed, weighed_annotation, weighed_argument, weighed_arguments, weighed_binder, weighed_binders, weighed_statement, weighed_statements}
use Rattle.qtt_implicit.specs.Known.{Known, signature}
use Rattle.qtt_implicit.specs.Filling.{Stop, done, put, stop}
use Rattle.qtt_implicit.specs.Walk.{Walked, Given, Then, Types, type_at, walk, walk_annotation, walk_argument, walk_arguments, walk_binder, walk_binders, walk_statement, walk_statements, is_braced, is_written, given_tree, given_argument, in_braces, not_in_braces, application, plainly_applied, behind_binders, binder_names, slot_arguments, few_braces, applied, applied_global, applied_name}
use Rattle.qtt_implicit.specs.Forget.{unless_inserted, forgotten, forgotten_annotation, forgotten_arguments, forgotten_binder, forgotten_binders, forgotten_statement, forgotten_statements}
use Rattle.qtt_implicit.specs.Laws.{unless, all_written, braces_first, has_argument, misplaced, chain_length, HasItsBinders}
use Rattle.qtt_implicit.proofs.Outcomes.{Gives, Always, then_always, done_always, stop_always}
use Rattle.qtt_implicit.proofs.SeenSignatures.{Has}
use Rattle.qtt_implicit.proofs.FilledSlots.{Begins, AllOpen, begins, open_alone}

-- ---- arguments, as they were walked
abbrev pub restored : Given → Argument
restored x = argument x.mark (forgotten x.tree)

abbrev pub restored_all : List Given → Arguments
restored_all xs = arguments (map restored xs)

abbrev pub braced : Tree → Argument
braced t = argument Braced (forgotten t)

pub filter_yes : {A : Type 0} (p : A → Bool) (x : A) (xs : List A) → p x ≡ true → filter p (x ∷ xs) ≡ x ∷ filter p xs
filter_yes p x xs e = rw e refl

pub filter_no : {A : Type 0} (p : A → Bool) (x : A) (xs : List A) → p x ≡ false → filter p (x ∷ xs) ≡ filter p xs
filter_no p x xs e = rw e refl

kept_written : (gs : List Given) → all_written (restored_all gs) ≡ true →
    forgotten_arguments (arguments (map given_argument gs)) ≡ restored_all gs
kept_written [] h = refl
kept_written (g ∷ gs) h = by g.mark h (kept_written gs)
  where
    by : (k : Mark) → all_written (argument_and (argument k (forgotten g.tree)) (restored_all gs)) ≡ true →
        (all_written (restored_all gs) ≡ true →
        forgotten_arguments (arguments (map given_argument gs)) ≡ restored_all gs) →
        unless_inserted k (forgotten g.tree) (forgotten_arguments (arguments (map given_argument gs))) ≡
        argument_and (argument k (forgotten g.tree)) (restored_all gs)
    by Written h ih = ap (argument_and (argument Written (forgotten g.tree))) (ih h)
    by Braced h ih = absurd cc
    by Inserted h ih = absurd cc

pub kept_first : (gs : List Given) → braces_first (restored_all gs) ≡ true →
    forgotten_arguments (arguments (map given_argument gs)) ≡ restored_all gs
kept_first [] h = refl
kept_first (g ∷ gs) h = by g.mark h (kept_first gs)
  where
    by : (k : Mark) → braces_first (argument_and (argument k (forgotten g.tree)) (restored_all gs)) ≡ true →
        (braces_first (restored_all gs) ≡ true →
        forgotten_arguments (arguments (map given_argument gs)) ≡ restored_all gs) →
        unless_inserted k (forgotten g.tree) (forgotten_arguments (arguments (map given_argument gs))) ≡
        argument_and (argument k (forgotten g.tree)) (restored_all gs)
    by Written h ih = ap (argument_and (argument Written (forgotten g.tree))) (kept_written gs h)
    by Braced h ih = ap (argument_and (argument Braced (forgotten g.tree))) (ih h)
    by Inserted h ih = absurd cc

all_in_order : (gs : List Given) → all_written (restored_all gs) ≡ true → (in_braces gs ≡ []) × (not_in_braces gs ≡ gs)
all_in_order [] h = (refl, refl)
all_in_order (g ∷ gs) h = by g.mark refl h (all_in_order gs)
  where
    by : (k : Mark) → g.mark ≡ k → all_written (argument_and (argument k (forgotten g.tree)) (restored_all gs)) ≡ true →
        (all_written (restored_all gs) ≡ true → (in_braces gs ≡ []) × (not_in_braces gs ≡ gs)) →
        (in_braces (g ∷ gs) ≡ []) × (not_in_braces (g ∷ gs) ≡ g ∷ gs)
    by Written e h ih = (
      ap (map given_tree) (filter_no (λ (x : Given). is_braced x.mark) g gs (ap is_braced e)) ∙ (ih h).0,
      filter_yes (λ (x : Given). is_written x.mark) g gs (ap is_written e) ∙ ap (λ (l : List Given). g ∷ l) (ih h).1,
    )
    by Braced e h ih = absurd cc
    by Inserted e h ih = absurd cc

-- arguments in braces, and behind them the others
in_order : (gs : List Given) → braces_first (restored_all gs) ≡ true →
    map restored gs ≡ map braced (in_braces gs) ++ map restored (not_in_braces gs)
in_order [] h = refl
in_order (g ∷ gs) h = by g.mark refl h (in_order gs)
  where
    by : (k : Mark) → g.mark ≡ k →
        braces_first (argument_and (argument k (forgotten g.tree)) (restored_all gs)) ≡ true →
        (braces_first (restored_all gs) ≡ true →
        map restored gs ≡ map braced (in_braces gs) ++ map restored (not_in_braces gs)) →
        map restored (g ∷ gs) ≡ map braced (in_braces (g ∷ gs)) ++ map restored (not_in_braces (g ∷ gs))
    by Written e h ih =
        let none : in_braces (g ∷ gs) ≡ [] =
        ap (map given_tree) (filter_no (λ (x : Given). is_braced x.mark) g gs (ap is_braced e)) ∙
        (all_in_order gs h).0 in
        let all : not_in_braces (g ∷ gs) ≡ g ∷ gs =
        filter_yes (λ (x : Given). is_written x.mark) g gs (ap is_written e)
        ∙ ap (λ (l : List Given). g ∷ l) (all_in_order gs h).1 in
        sym (ap₂ (λ (a : List Tree) (b : List Given). map braced a ++ map restored b) none all)
    by Braced e h ih =
        let one : in_braces (g ∷ gs) ≡ g.tree ∷ in_braces gs =
        ap (map given_tree) (filter_yes (λ (x : Given). is_braced x.mark) g gs (ap is_braced e)) in
        let none : not_in_braces (g ∷ gs) ≡ not_in_braces gs =
        filter_no (λ (x : Given). is_written x.mark) g gs (ap is_written e) in
        ap₂ (λ (k : Mark) (l : List Argument). argument k (forgotten g.tree) ∷ l) e (ih h)
        ∙ sym (ap₂ (λ (a : List Tree) (b : List Given). map braced a ++ map restored b) one none)
    by Inserted e h ih = absurd cc

others_written : (gs : List Given) → all_written (restored_all (not_in_braces gs)) ≡ true
others_written [] = refl
others_written (g ∷ gs) = by g.mark refl (others_written gs)
  where
    by : (k : Mark) → g.mark ≡ k → all_written (restored_all (not_in_braces gs)) ≡ true →
        all_written (restored_all (not_in_braces (g ∷ gs))) ≡ true
    by Written e ih =
        ap (λ (l : List Given). all_written (restored_all l))
        (filter_yes (λ (x : Given). is_written x.mark) g gs (ap is_written e))
        ∙ ap (λ (m : Mark). all_written (argument_and (argument m (forgotten g.tree))
        (restored_all (not_in_braces gs)))) e
        ∙ ih
    by Braced e ih =
        ap (λ (l : List Given). all_written (restored_all l))
        (filter_no (λ (x : Given). is_written x.mark) g gs (ap is_written e)) ∙ ih
    by Inserted e ih =
        ap (λ (l : List Given). all_written (restored_all l))
        (filter_no (λ (x : Given). is_written x.mark) g gs (ap is_written e)) ∙ ih

-- ---- one row behind another
abbrev joined : Arguments → Arguments → Arguments
joined no_argument ys = ys
joined (argument_and a xs) ys = argument_and a (joined xs ys)

arguments-append : (xs ys : List Argument) → arguments (xs ++ ys) ≡ joined (arguments xs) (arguments ys)
arguments-append [] ys = refl
arguments-append (x ∷ xs) ys = ap (argument_and x) (arguments-append xs ys)

forgotten-joined : (xs ys : Arguments) →
    forgotten_arguments (joined xs ys) ≡ joined (forgotten_arguments xs) (forgotten_arguments ys)
forgotten-joined no_argument ys = refl
forgotten-joined (argument_and (argument Written t) xs) ys =
    ap (argument_and (argument Written (forgotten t))) (forgotten-joined xs ys)
forgotten-joined (argument_and (argument Braced t) xs) ys =
    ap (argument_and (argument Braced (forgotten t))) (forgotten-joined xs ys)
forgotten-joined (argument_and (argument Inserted t) xs) ys = forgotten-joined xs ys

-- ---- slots
one_less : (n : ℕ) → n ≡ suc n - 1
one_less n = omega arith

pub slots_back : (s : Span) (ts : List Tree) (xs : List (List ℕ)) (os : List (Option Tree)) → Begins ts os →
    length ts ≤ length xs →
    Always (λ filled. forgotten_arguments (arguments filled) ≡ arguments (map braced ts))
    (slot_arguments s (length ts) xs os)
slots_back s [] [] os b h = done_always refl
slots_back s [] (x ∷ xs) [] b h = done_always refl
slots_back s [] (x ∷ xs) (None ∷ os) b h = stop_always
slots_back s [] (x ∷ xs) (Some t ∷ os) b h =
    then_always (slots_back s [] xs os tt (omega arith)) (λ more e. done_always e)
slots_back s (t ∷ ts) [] os b h = absurd (omega arith)
slots_back s (t ∷ ts) (x ∷ xs) [] b h = absurd b
slots_back s (t ∷ ts) (x ∷ xs) (None ∷ os) b h = let e = b.0 in absurd cc
slots_back s (t ∷ ts) (x ∷ xs) (Some u ∷ os) b h =
    let e = b.0 in
    let same : u ≡ t = cc in
    then_always
    (subst (λ (k : ℕ). Always (λ filled. forgotten_arguments (arguments filled) ≡ arguments (map braced ts))
    (slot_arguments s k xs os)) (one_less (length ts)) (slots_back s ts xs os b.1 (omega arith)))
    (λ more f. done_always (ap₂ argument_and (ap braced same) f))

pub slots_none : (s : Span) (k : ℕ) (xs : List (List ℕ)) (os : List (Option Tree)) → AllOpen os →
    Always (λ filled. filled ≡ []) (slot_arguments s k xs os)
slots_none s k [] os a = done_always refl
slots_none s k (x ∷ xs) [] a = done_always refl
slots_none s k (x ∷ xs) (None ∷ os) a = stop_always
slots_none s k (x ∷ xs) (Some t ∷ os) a = absurd a

few_always : (most : ℕ) (ts : List Tree) (s : Span) → Always (λ (u : Unit {0}). length ts ≤ most) (few_braces most ts s)
few_always most ts s = by (nat_le (length ts) most) refl
  where
    by : (b : Bool) → nat_le (length ts) most ≡ b →
        Always (λ (u : Unit {0}). length ts ≤ most) (if b then done tt else stop (Stop.braces most (length ts) s))
    by true e = done_always (grind (arith, e))
    by false e = stop_always

put_always : (n : ℕ) → Always (λ (u : Unit {0}). Unit {0}) (put n)
put_always n = record { at = λ left. by left (nat_le n left) }
  where
    by : (left : ℕ) (b : Bool) →
        Gives (λ (u : Unit {0}). Unit {0}) (if b then Ok (tt, left - n) else Err Stop.too_large)
    by left true = tt
    by left false = tt

-- ---- signatures with their binders
pub names_length : (k : ℕ) (t : Tree) → k ≤ chain_length t → length (binder_names k t) ≡ k
names_length zero t h = refl
names_length (suc k) (pi m q n a b s) h = ap suc (names_length k b (omega arith))
names_length (suc k) t h = absurd (omega arith)

pub behind_length : (p : ℕ) (t : Tree) → chain_length (behind_binders p t) ≡ chain_length t - p
behind_length zero t = omega arith
behind_length (suc p) (pi m q n a b s) = let e = behind_length p b in omega (arith, e)
behind_length (suc p) t = omega arith

-- ---- applications
abbrev pub Back : Tree → Walked → Type 0
Back t r = forgotten r.tree ≡ t

is_so : (b : Bool) → unless b ≡ 0 → b ≡ true
is_so true e = refl
is_so false e = absurd (omega arith)

application_back : (f g : Tree) (xs : List Argument) (A : Arguments) (s : Span) → forgotten f ≡ g →
    forgotten_arguments (arguments xs) ≡ A → has_argument A ≡ true → forgotten (application f xs s) ≡ apply g A s
application_back f g [] A s e p h = let q = ap has_argument p in absurd cc
application_back f g (x ∷ xs) A s e p h = ap₂ (λ y z. apply y z s) e p

module _ (gs : List Given) (first : braces_first (restored_all gs) ≡ true)
    (some : has_argument (restored_all gs) ≡ true) where
  pub plainly_back : (f g T : Tree) (s : Span) → forgotten f ≡ g →
      Back (apply g (restored_all gs) s) (plainly_applied f T gs s)
  plainly_back f g T s e =
      application_back f g (map given_argument gs) (restored_all gs) s e (kept_first gs first) some

  applied_back : (S : Sig) → HasItsBinders S → (n : Named) (s : Span) →
      Always (Back (apply (name n) (restored_all gs) s)) (applied S n gs s)
  applied_back S long n s =
      then_always (few_always S.braces (in_braces gs) n.span) (λ fits few.
      then_always (slots_back n.span (in_braces gs) (binder_names S.braces (behind_binders S.params S.type)) _
      (begins S (in_braces gs) (behind_binders (S.params + S.braces) S.type) (not_in_braces gs) few)
      (let e = names_length S.braces (behind_binders S.params S.type)
      (let f = behind_length S.params S.type in omega (arith, f, long)) in
      omega (arith, e, few)))
      (λ filled p. then_always (put_always _) (λ added u. done_always
      (application_back (name n) (name n) _ (restored_all gs) s refl (whole filled p) some))))
    where
      whole : (filled : List Argument) →
          forgotten_arguments (arguments filled) ≡ arguments (map braced (in_braces gs)) →
          forgotten_arguments (arguments (filled ++ map given_argument (not_in_braces gs))) ≡ restored_all gs
      whole filled p =
          ap forgotten_arguments (arguments-append filled (map given_argument (not_in_braces gs)))
          ∙ forgotten-joined (arguments filled) (arguments (map given_argument (not_in_braces gs)))
          ∙ ap₂ joined p (kept_written (not_in_braces gs) (others_written gs))
          ∙ sym (arguments-append (map braced (in_braces gs)) (map restored (not_in_braces gs)))
          ∙ ap arguments (sym (in_order gs first))

-- a name alone
alone : (S : Sig) (n : Named) (s : Span) → Always (Back (name n)) (applied S n [] s)
alone S n s =
    then_always (few_always S.braces [] n.span) (λ fits few.
    then_always (slots_none n.span 0 (binder_names S.braces (behind_binders S.params S.type)) _
    (open_alone S (behind_binders (S.params + S.braces) S.type)))
    (λ filled p. then_always (put_always _) (λ added u. done_always
    (ap (λ (l : List Argument). forgotten (application (name n) (l ++ []) s)) p))))

module _ (K : Known) where
  name_back : (Γ : Types) (T : Target) (n : Named) → Always (Back (name n)) (applied_name K Γ T n [] n.span)
  name_back Γ (target.Global id) n = by (signature K id)
    where
      by : (o : Option Sig) → Always (Back (name n)) (applied_global o n [] n.span)
      by None = done_always refl
      by (Some S) = alone S n n.span
  name_back Γ (target.Local i) n = then_always (few_always 0 [] n.span) (λ fits few. done_always refl)
  name_back Γ target.Unknown n = done_always refl

module _ (K : Known) (long : (id : _) → Has HasItsBinders (signature K id)) where
  applied_name_back : (gs : List Given) → braces_first (restored_all gs) ≡ true →
      has_argument (restored_all gs) ≡ true → (Γ : Types) (T : Target) (n : Named) (s : Span) →
      Always (Back (apply (name n) (restored_all gs) s)) (applied_name K Γ T n gs s)
  applied_name_back gs first some Γ (target.Global id) n s = by (signature K id) (long id)
    where
      by : (o : Option Sig) → Has HasItsBinders o →
          Always (Back (apply (name n) (restored_all gs) s)) (applied_global o n gs s)
      by None h = done_always (plainly_back gs first some (name n) (name n) unknown s refl)
      by (Some S) h = applied_back gs first some S h n s
  applied_name_back gs first some Γ (target.Local i) n s =
      then_always (few_always 0 (in_braces gs) n.span)
      (λ fits few. done_always (plainly_back gs first some (name n) (name n) (type_at Γ i) s refl))
  applied_name_back gs first some Γ target.Unknown n s =
      done_always (plainly_back gs first some (name n) (name n) unknown s refl)

  -- an application of a name, where its arguments were walked
  of_name : (Γ : Types) (n : Named) (xs : Arguments) (s : Span) (gs : List Given) → restored_all gs ≡ xs →
      misplaced (apply (name n) xs s) ≡ 0 → Always (Back (apply (name n) xs s)) (applied_name K Γ n.target n gs s)
  of_name Γ n xs s gs e h =
      let first : braces_first (restored_all gs) ≡ true =
      ap braces_first e ∙ is_so (braces_first xs) (omega (arith, h)) in
      let some : has_argument (restored_all gs) ≡ true =
      ap has_argument e ∙ is_so (has_argument xs) (omega (arith, h)) in
      subst (λ (ys : Arguments). Always (Back (apply (name n) ys s)) (applied_name K Γ n.target n gs s)) e
      (applied_name_back gs first some Γ n.target n s)

  of_other : (f : Tree) (xs : Arguments) (s : Span) (r : Walked) (gs : List Given) → forgotten r.tree ≡ f →
      restored_all gs ≡ xs → misplaced (apply f xs s) ≡ 0 →
      Back (apply f xs s) (plainly_applied r.tree r.type gs s)
  of_other f xs s r gs p e h =
      let first : braces_first (restored_all gs) ≡ true =
      ap braces_first e ∙ is_so (braces_first xs) (omega (arith, h)) in
      let some : has_argument (restored_all gs) ≡ true =
      ap has_argument e ∙ is_so (has_argument xs) (omega (arith, h)) in
      plainly_back gs first some r.tree f r.type s p ∙ ap (λ (ys : Arguments). apply f ys s) e

  mutual
    pub back : (Γ : Types) (t : Tree) → weighed misplaced t ≡ 0 → Always (Back t) (walk K Γ t)
    back Γ (name n) h = name_back K Γ n.target n
    back Γ (number z s) h = done_always refl
    back Γ (text v s) h = done_always refl
    back Γ (universe l ls s) h = done_always refl
    back Γ (hole n s) h = done_always refl
    back Γ (the t e s) h =
        then_always (back Γ t (omega arith)) (λ t' p.
        then_always (back Γ e (omega arith)) (λ e' q. done_always (ap₂ (λ x y. the x y s) p q)))
    back Γ (apply (name n) xs s) h =
        then_always (back_arguments Γ xs (omega arith)) (λ gs e. of_name Γ n xs s gs e (omega arith))
    back Γ (apply f xs s) h =
        then_always (back Γ f (omega arith)) (λ f' p.
        then_always (back_arguments Γ xs (omega arith)) (λ gs e. done_always
        (of_other f xs s f' gs p e (omega arith))))
    back Γ (pi k m n a b s) h =
        then_always (back Γ a (omega arith)) (λ a' p.
        then_always (back _ b (omega arith)) (λ b' q. done_always (ap₂ (λ x y. pi k m n x y s) p q)))
    back Γ (lambda bs b s) h =
        then_always (back_binders Γ bs (omega arith)) (λ bs' p.
        then_always (back _ b (omega arith)) (λ b' q. done_always (ap₂ (λ x y. lambda x y s) p q)))
    back Γ (letting m n t e b s) h =
        then_always (back_annotation Γ t (omega arith)) (λ t' p.
        then_always (back Γ e (omega arith)) (λ e' q.
        then_always (back _ b (omega arith)) (λ b' r. done_always
        (ap (λ x. letting m n x (forgotten e'.tree) (forgotten b'.tree) s) p
        ∙ ap₂ (λ x y. letting m n t x y s) q r))))
    back Γ (doing ss s) h =
        then_always (back_statements Γ ss (omega arith)) (λ ss' p. done_always (ap (λ x. doing x s) p))

    pub back_annotation : (Γ : Types) (t : Annotation) → weighed_annotation misplaced t ≡ 0 →
        Always (λ t'. forgotten_annotation t' ≡ t) (walk_annotation K Γ t)
    back_annotation Γ untyped h = done_always refl
    back_annotation Γ (typed t) h = then_always (back Γ t h) (λ t' p. done_always (ap typed p))

    back_argument : (Γ : Types) (a : Argument) → weighed_argument misplaced a ≡ 0 →
        Always (λ x. restored x ≡ a) (walk_argument K Γ a)
    back_argument Γ (argument k t) h = then_always (back Γ t h) (λ t' p. done_always (ap (argument k) p))

    back_arguments : (Γ : Types) (xs : Arguments) → weighed_arguments misplaced xs ≡ 0 →
        Always (λ gs. restored_all gs ≡ xs) (walk_arguments K Γ xs)
    back_arguments Γ no_argument h = done_always refl
    back_arguments Γ (argument_and a more) h =
        then_always (back_argument Γ a (omega arith)) (λ a' p.
        then_always (back_arguments Γ more (omega arith)) (λ gs q. done_always (ap₂ argument_and p q)))

    back_binder : (Γ : Types) (b : Binder) → weighed_binder misplaced b ≡ 0 →
        Always (λ (b' : Then Binder). forgotten_binder b'.part ≡ b) (walk_binder K Γ b)
    back_binder Γ (plain n) h = done_always refl
    back_binder Γ (typed_binder m n t s) h =
        then_always (back Γ t h) (λ t' p. done_always (ap (λ x. typed_binder m n x s) p))

    back_binders : (Γ : Types) (bs : Binders) → weighed_binders misplaced bs ≡ 0 →
        Always (λ (bs' : Then Binders). forgotten_binders bs'.part ≡ bs) (walk_binders K Γ bs)
    back_binders Γ no_binder h = done_always refl
    back_binders Γ (binder_and b more) h =
        then_always (back_binder Γ b (omega arith)) (λ b' p.
        then_always (back_binders _ more (omega arith)) (λ more' q. done_always (ap₂ binder_and p q)))

    back_statement : (Γ : Types) (s : Statement) → weighed_statement misplaced s ≡ 0 →
        Always (λ (s' : Then Statement). forgotten_statement s'.part ≡ s) (walk_statement K Γ s)
    back_statement Γ (bind n e) h = then_always (back Γ e h) (λ e' p. done_always (ap (bind n) p))
    back_statement Γ (local m n t e s) h =
        then_always (back_annotation Γ t (omega arith)) (λ t' p.
        then_always (back Γ e (omega arith)) (λ e' q. done_always (ap₂ (λ x y. local m n x y s) p q)))
    back_statement Γ (run e s) h = then_always (back Γ e h) (λ e' p. done_always (ap (λ x. run x s) p))

    back_statements : (Γ : Types) (ss : Statements) → weighed_statements misplaced ss ≡ 0 →
        Always (λ ss'. forgotten_statements ss' ≡ ss) (walk_statements K Γ ss)
    back_statements Γ no_statement h = done_always refl
    back_statements Γ (statement_and s more) h =
        then_always (back_statement Γ s (omega arith)) (λ s' p.
        then_always (back_statements _ more (omega arith)) (λ more' q. done_always (ap₂ statement_and p q)))

-- Names at written arguments, within a budget.
use Rattle.std.proofs.Common.{◌≡◌, ◌<◌, ◌≤◌, ◌+◌, ◌-◌, ◌++◌, drop, get_or, arith, ℕ, zero, suc, List, [], ◌∷◌, length, map, take, Result, Ok, Err, MatchResult, IsErrAnd, refl, sym, ap, subst, ◌∙◌}
use Rattle.std.specs.Prelude.{eqb}
use Rattle.std.proofs.lemmas.Bool.{eq-eqb, ne_eqb}
use Rattle.std.proofs.lemmas.List.{length-map, take_all}
use mathlib.Core.Path.{ap₂}
use Rattle.qtt_base.specs.declared.place.Span.{Span}
use Rattle.qtt_usage.specs.declared.mult.Mult.{Mult}
use Rattle.qtt_syntax.specs.declared.expr.Argument as argument_code
use Rattle.qtt_syntax.specs.Tree.{Tree, Argument, Arguments}
use Rattle.qtt_syntax.specs.Tree.Argument.{argument}
use Rattle.qtt_syntax.specs.Tree.Arguments.{argument_and}
use Rattle.qtt_usage.specs.Usage.{usage_sum, usage_scale}
use Rattle.qtt_syntax.specs.View.{argument_of}
use Rattle.qtt_term.specs.declared.term.Term as code
use Rattle.qtt_term.specs.declared.rule.Rule.TheVariants as rule
use Rattle.qtt_term.specs.declared.term.ConId.{ConId}
use Rattle.qtt_term.specs.Term.{Form, Term, Terms, node, ε, ◌▸◌, ◌+++◌}
use Rattle.qtt_term.specs.Substitution.{sub, push, closed}
use Rattle.qtt_term.specs.Signature.{Tele, Env}
use Rattle.qtt_term.specs.Ask.{Ask, ◌>>=◌, within}
use Rattle.qtt_term.specs.Judgement.{Part, under}
use Rattle.qtt_term.specs.Entries.{Entries, env}
use Rattle.qtt_term.specs.Scope.{Scope, depth}
use Rattle.qtt_term.specs.Forms.{front}
use Rattle.qtt_term.specs.View.{term, terms, side_by_side}
use Rattle.qtt_term.specs.Telescopes.{tele, filled}
use Rattle.qtt_rules.specs.declared.errors.ElabError.{ElabError}
use Rattle.qtt_rules.specs.declared.errors.ElabError.TheVariants as error
use Rattle.qtt_rules.specs.Refusal.{Cause, Place, at}
use Rattle.qtt_rules.specs.Asks.{Asks, need, refuse, agree}
use Rattle.qtt_rules.specs.Judged.{Judged, judged, Mode}
use Rattle.qtt_bidi.specs.Answers.{Reaches, Refuses, Gives, Told}
use Rattle.qtt_bidi.specs.Calls.{Filled}
use Rattle.qtt_bidi.specs.Elaboration.{Given, judge, applied, arguments, argument_count, exactly, unused, switched, listed_row, con_row, con_synth, con_check, param_count, global_row, Written}
use Rattle.qtt_bidi.specs.Ends.{written, expression, applied_to}
use Rattle.qtt_bidi.specs.Seen.{judged_as}
use Rattle.qtt_bidi.specs.declared.judged.Judged as code_judged
use Rattle.qtt_bidi.specs.Listed.{listed_as, rule_of, form_of, arguments_of, type_of}
use Rattle.qtt_bidi.specs.declared.meaning.Listed.{Listed}
use Rattle.qtt_bidi.specs.declared.meaning.Listed.TheVariants as listed
use Rattle.qtt_bidi.specs.declared.signatures.Made as code_made
use Rattle.qtt_bidi.specs.Made.{IsMade}
use Rattle.qtt_bidi.specs.Meaning.{Meaning}
use Rattle.qtt_bidi.specs.Parts.{argument_trees}
use Rattle.qtt_bidi.specs.Premises.{family_of, function_of}
use Rattle.qtt_bidi.proofs.Filling.{count-written, first-refused, rest-refused, filled-more}
use Rattle.qtt_bidi.proofs.Looked.{told}
use Rattle.qtt_bidi.proofs.Switching.{switch-refused, switch-gives}
use Rattle.qtt_bidi.proofs.Within.{on, on_done, here, later, holds, unmet, fails_here, reached, same, same-answer, same-refusal, same-judged}

-- what takes exactly its arguments goes by one row
pub listed-is : (G : Entries) (p : Part) (S : Scope) (m : Mode) (s : Span) (L : Listed) (w : Written) →
    global_row G p S m s (listed_as L) w ≡
    switched S m s (listed_row S s (rule_of L) (form_of L) (arguments_of G L) (type_of G L) w)
listed-is G p S m s (listed.Family f) w = refl
listed-is G p S m s (listed.Type t) w = refl
listed-is G p S m s (listed.Primitive q) w = refl
listed-is G p S m s (listed.Action a) w = refl

-- ---- the first terms of a list
pub front-take : (k : ℕ) (ts : List code.Term) →
    side_by_side (terms (take k ts)) ≡ front k (side_by_side (terms ts))
front-take zero ts = refl
front-take (suc k) [] = refl
front-take (suc k) (t ∷ ts) = ap (λ us. term t ▸ us) (front-take k ts)

-- ---- how many
pub counted : (es : List argument_code.Argument) → argument_count (argument_trees es) ≡ length es
counted es = count-written (map argument_of es) ∙ length-map es argument_of

module _ (G : Entries) (p : Part) (S : Scope) (es : List argument_code.Argument) where
  pub exactly-is : (N k m : ℕ) (w : Place) → k ≡ N → m ≡ length es →
      exactly N (written G p S (argument_trees es)) w ≡ need (eqb k m) (Cause.wrong_arity k m) w
  exactly-is N k m w a b =
      ap₂ (λ k m. need (eqb k m) (Cause.wrong_arity k m) w) (sym a) (counted es ∙ sym b)

  -- ---- what is asked of arguments behind values
  pub asked-so : (bs : List (Mult × code.Term)) (vs : List code.Term) (Θ : Tele) (ts : Terms) →
      tele bs ≡ Θ → side_by_side (terms vs) ≡ ts →
      arguments G p S (tele bs) (filled vs) (argument_trees es) ≡
      arguments G p S Θ (push ts closed) (argument_trees es)
  asked-so bs vs Θ ts a b =
      ap₂ (λ Θ ts. arguments G p S Θ (push ts closed) (argument_trees es)) a b

-- arguments that were checked behind values for the binders before theirs
pub record Took (E : Env) (n : ℕ) (m : Asks Given) (front : Terms) (after : List code.Term) (us : List Mult) :
    Type 0 where
  pub given : Given
  pub reaches : Reaches E n m given
  pub cores : side_by_side (terms after) ≡ front +++ given.cores
  pub uses : us ≡ given.uses

pub took : (E : Env) (n : ℕ) (m w : Asks Given) (before after : List code.Term) (ts : Terms) (us : List Mult) →
    m ≡ w → side_by_side (terms before) ≡ ts → Filled E n m before after us → Took E n w ts after us
took E n m w before after ts us a b f = record {
  given = f.given;
  reaches = subst (λ m. Reaches E n m f.given) a f.reaches;
  cores = f.cores ∙ ap (λ ts. ts +++ f.given.cores) b;
  uses = f.uses;
}

-- ---- results of checking arguments
module _ (E : Env) (n : ℕ) (m : Asks Given) (before after : List code.Term) where
  abbrev pub Filling : Result (List Mult) ElabError → Type 0
  Filling r = MatchResult r (λ us. Filled E n m before after us) (λ e. Refuses E n m e)

  -- the refusal that a question mark passes on
  pub fill-passed : (r : Result (List Mult) ElabError) (e : ElabError) → IsErrAnd r (λ y. y ≡ e) →
      Refuses E n m e → Filling r
  fill-passed (Ok us) e h f = absurd h
  fill-passed (Err y) e h f = subst (λ z. Refuses E n m z) (sym h) f

  pub fill-memory : (r : Result (List Mult) ElabError) (e : ElabError) → IsErrAnd r (λ y. y ≡ e) →
      e ≡ error.Memory → Filling r
  fill-memory r e h f = fill-passed r e h (subst (λ e. Refuses E n m e) (sym f) tt)

  pub fill-unused : (S : Scope) (r : Result (List Mult) ElabError) →
      ((us : List Mult) → us ≡ unused S → Filled E n m before after us) →
      MatchResult r (λ u. u ≡ unused S) (λ e. e ≡ error.Memory) → Filling r
  fill-unused S (Ok us) f h = f us h
  fill-unused S (Err e) f h = subst (λ e. Refuses E n m e) (sym h) tt

-- a refusal that tells the premise of a rule that is refused at once
pub refuse-told : (E : Env) (n : ℕ) (c : Cause) (w : Place) (e : ElabError) → Told c w e →
    Refuses E n {A = Judged} (refuse c w) e
unfolding within
refuse-told E n c w e t = told E n {A = Judged} (refuse c w) c w e (record { is = refl }) t

-- ---- what takes exactly its arguments
module _ (G : Entries) (p : Part) (S : Scope) (n : ℕ) (m : Mode) (s : Span) (L : Listed)
    (es : List argument_code.Argument) (bs : List (Mult × code.Term)) (k j : ℕ) (a : tele bs ≡ arguments_of G L)
    (b : k ≡ length bs) (d : j ≡ length es) where
  abbrev args : Written
  args = written G p S (argument_trees es)

  abbrev row : Asks Judged
  row = listed_row S s (rule_of L) (form_of L) (arguments_of G L) (type_of G L) args

  abbrev counts : Asks (Unit {0})
  counts = exactly (length (arguments_of G L)) args (at s (rule_of L) 1)

  abbrev as_many : Asks (Unit {0})
  as_many = need (eqb k j) (Cause.wrong_arity k j) (at s (rule_of L) 1)

  count-is : counts ≡ as_many
  count-is =
      exactly-is G p S es (length (arguments_of G L)) k j (at s (rule_of L) 1)
      (b ∙ sym (length-map bs (λ (b : Mult × code.Term). (b.0, term b.1))) ∙ ap length a) d

  refused-row : (e : ElabError) → Refuses (env G) n row e →
      Refuses (env G) n (global_row G p S m s (listed_as L) args) e
  refused-row e h =
      same-refusal (env G) n (switched S m s row) (global_row G p S m s (listed_as L) args) e
      (listed-is G p S m s L args) (switch-refused (env G) n S m s row e h)

  pub listed-uncounted : (e : ElabError) → Refuses (env G) n as_many e →
      Refuses (env G) n (global_row G p S m s (listed_as L) args) e
  listed-uncounted e h = refused-row e (here (env G) n counts _ e (same-refusal (env G) n as_many counts e count-is h))

  module _ (h : Reaches (env G) n as_many tt) (vs : List code.Term) (v : vs ≡ []) where
    abbrev behind : Asks Given
    behind = arguments G p S (tele bs) (filled vs) (argument_trees es)

    behind-is : behind ≡ arguments G p S (arguments_of G L) closed (argument_trees es)
    behind-is = asked-so G p S es bs vs (arguments_of G L) ε a (ap (λ vs. side_by_side (terms vs)) v)

    as-many : Reaches (env G) n counts tt
    as-many = same-answer as_many counts tt count-is h

    pub listed-untaken : (e : ElabError) → Refuses (env G) n behind e →
        Refuses (env G) n (global_row G p S m s (listed_as L) args) e
    listed-untaken e r =
        refused-row e (later (env G) n counts _ e as-many
        (here (env G) n (arguments G p S (arguments_of G L) closed (argument_trees es)) _ e
        (subst (λ m. Refuses (env G) n m e) behind-is r)))

    pub listed-taken : {X : Type 0} (view : X → Judged) (r : Result X ElabError) (ws : List code.Term)
        (us : List Mult) (ty : code.Term) (x : Judged) → term ty ≡ type_of G L → Filled (env G) n behind vs ws us →
        x ≡ judged (sub (filled ws) (term ty)) (node (form_of L) (side_by_side (terms ws))) us →
        Gives (env G) n (switched S m s (Ask.done x)) view r →
        Gives (env G) n (global_row G p S m s (listed_as L) args) view r
    listed-taken view r ws us ty x A f q y =
        let t =
        took (env G) n behind (arguments G p S (arguments_of G L) closed (argument_trees es)) vs ws ε us behind-is
        (ap (λ vs. side_by_side (terms vs)) v) f in
        same (env G) n (switched S m s row) (global_row G p S m s (listed_as L) args) view r
        (listed-is G p S m s L args)
        (switch-gives (env G) n S m s row view r
        (reached (on _ as-many (on _ t.reaches on_done))
        (same-judged
        (ap₂ (λ ts A. sub (push ts closed) A) (sym t.cores) (sym A))
        (ap (node (form_of L)) (sym t.cores)) (sym t.uses) ∙ sym q))
        y)

-- ---- constructors
module _ (G : Entries) (p : Part) (S : Scope) (n : ℕ) (s : Span) (c : ConId) (es : List argument_code.Argument)
    (M : code_made.Made) (made : IsMade G c M) (k j : ℕ) (b : k ≡ length M.fields.items) (d : j ≡ length es) where
  abbrev written_args : Written
  written_args = written G p S (argument_trees es)

  counted-as : (w : Place) → exactly (length made.sig.fields) written_args w ≡ need (eqb k j) (Cause.wrong_arity k j) w
  counted-as w =
      exactly-is G p S es (length made.sig.fields) k j w
      (b ∙ sym (length-map M.fields.items (λ (b : Mult × code.Term). (b.0, term b.1))) ∙ ap length made.fields) d

  -- found
  abbrev found_at : Place
  found_at = at s rule.ConSynth 2

  abbrev found_row : Asks Judged
  found_row = global_row G p S Mode.synth s (Meaning.constructor c) written_args

  found-is : found_row ≡ con_synth S s c (param_count G c) made.sig written_args
  found-is = ap (λ o. con_row S Mode.synth s c (param_count G c) o written_args) made.there

  pub con-needs : (e : ElabError) → (M.params ≡ 0 → ⊥) → Told Cause.needs_type (at s rule.ConSynth 1) e →
      Refuses (env G) n found_row e
  con-needs e h t =
      same-refusal (env G) n (con_synth S s c (param_count G c) made.sig written_args) found_row e found-is
      (told (env G) n (con_synth S s c (param_count G c) made.sig written_args) Cause.needs_type
      (at s rule.ConSynth 1) e
      (fails_here _ (unmet (eqb (param_count G c) 0) Cause.needs_type (at s rule.ConSynth 1)
      (ne_eqb (param_count G c) 0 (λ z. h (made.params ∙ z))))) t)

  module _ (none : M.params ≡ 0) where
    no-params : Reaches (env G) n (need (eqb (param_count G c) 0) Cause.needs_type (at s rule.ConSynth 1)) tt
    no-params = holds _ _ _ (eq-eqb (param_count G c) 0 (sym made.params ∙ none))

    pub con-uncounted : (e : ElabError) → Refuses (env G) n (need (eqb k j) (Cause.wrong_arity k j) found_at) e →
        Refuses (env G) n found_row e
    con-uncounted e h =
        same-refusal (env G) n (con_synth S s c (param_count G c) made.sig written_args) found_row e found-is
        (later (env G) n _ _ e no-params (here (env G) n _ _ e
        (same-refusal (env G) n (need (eqb k j) (Cause.wrong_arity k j) found_at)
        (exactly (length made.sig.fields) written_args found_at) e (counted-as found_at) h)))

    module _ (h : Reaches (env G) n (need (eqb k j) (Cause.wrong_arity k j) found_at) tt) (vs : List code.Term)
        (v : vs ≡ []) where
      abbrev fields : Asks Given
      fields = arguments G p S (tele M.fields.items) (filled vs) (argument_trees es)

      fields-are : fields ≡ arguments G p S made.sig.fields closed (argument_trees es)
      fields-are = asked-so G p S es M.fields.items vs made.sig.fields ε made.fields
          (ap (λ vs. side_by_side (terms vs)) v)

      all-written : Reaches (env G) n (exactly (length made.sig.fields) written_args found_at) tt
      all-written = same-answer (need (eqb k j) (Cause.wrong_arity k j) found_at)
          (exactly (length made.sig.fields) written_args found_at) tt (counted-as found_at) h

      pub con-untaken : (e : ElabError) → Refuses (env G) n fields e → Refuses (env G) n found_row e
      con-untaken e r =
          same-refusal (env G) n (con_synth S s c (param_count G c) made.sig written_args) found_row e found-is
          (later (env G) n _ _ e no-params (later (env G) n _ _ e all-written
          (here (env G) n (arguments G p S made.sig.fields closed (argument_trees es)) _ e
          (subst (λ m. Refuses (env G) n m e) fields-are r))))

      pub con-taken : (ws : List code.Term) (us : List Mult) → Filled (env G) n fields vs ws us →
          Reaches (env G) n found_row (judged (sub (filled ws) (term M.ty))
          (node (Form.con c.family c.place 0) (side_by_side (terms ws))) us)
      con-taken ws us f =
          let t = took (env G) n fields (arguments G p S made.sig.fields closed (argument_trees es)) vs ws ε us
          fields-are (ap (λ vs. side_by_side (terms vs)) v) f in
          same-answer (con_synth S s c (param_count G c) made.sig written_args) found_row _ found-is
          (reached (on _ no-params (on _ all-written (on _ t.reaches on_done)))
          (same-judged (ap₂ (λ ts A. sub (push ts closed) A) (sym t.cores) (sym made.type))
          (ap (node (Form.con c.family c.place 0)) (sym t.cores)) (sym t.uses)))

  -- checked
  module _ (A : Term) where
    abbrev checked_at : Place
    checked_at = at s rule.ConCheck 2

    abbrev family_at : Place
    family_at = at s rule.ConCheck 1

    abbrev checked_row : Asks Judged
    checked_row = global_row G p S (Mode.check A) s (Meaning.constructor c) written_args

    abbrev check_row : Asks Judged
    check_row = con_check S s c (param_count G c) made.sig A written_args

    checked-is : checked_row ≡ check_row
    checked-is = ap (λ o. con_row S (Mode.check A) s c (param_count G c) o written_args) made.there

    pub check-other : (e : ElabError) → Refuses (env G) n (family_of c.family S A family_at) e →
        Refuses (env G) n checked_row e
    check-other e h = same-refusal (env G) n check_row checked_row e checked-is (here (env G) n _ _ e h)

    module _ (xs : List code.Term)
        (f : Reaches (env G) n (family_of c.family S A family_at) (side_by_side (terms xs))) where
      pub check-uncounted : (e : ElabError) → Refuses (env G) n (need (eqb k j) (Cause.wrong_arity k j) checked_at) e →
          Refuses (env G) n checked_row e
      check-uncounted e h =
          same-refusal (env G) n check_row checked_row e checked-is
          (later (env G) n _ _ e f (here (env G) n _ _ e
          (same-refusal (env G) n (need (eqb k j) (Cause.wrong_arity k j) checked_at)
          (exactly (length made.sig.fields) written_args checked_at) e (counted-as checked_at) h)))

      module _ (h : Reaches (env G) n (need (eqb k j) (Cause.wrong_arity k j) checked_at) tt) (vs : List code.Term)
          (v : vs ≡ take M.params xs) where
        abbrev params : Terms
        params = front (param_count G c) (side_by_side (terms xs))

        params-are : side_by_side (terms vs) ≡ params
        params-are =
            ap (λ vs. side_by_side (terms vs)) v ∙ front-take M.params xs
            ∙ ap (λ i. front i (side_by_side (terms xs))) made.params

        abbrev behind_params : Asks Given
        behind_params = arguments G p S (tele M.fields.items) (filled vs) (argument_trees es)

        abbrev wanted : Asks Given
        wanted = arguments G p S made.sig.fields (push params closed) (argument_trees es)

        wanted-is : behind_params ≡ wanted
        wanted-is = asked-so G p S es M.fields.items vs made.sig.fields params made.fields params-are

        written-all : Reaches (env G) n (exactly (length made.sig.fields) written_args checked_at) tt
        written-all = same-answer (need (eqb k j) (Cause.wrong_arity k j) checked_at)
            (exactly (length made.sig.fields) written_args checked_at) tt (counted-as checked_at) h

        pub check-untaken : (e : ElabError) → Refuses (env G) n behind_params e → Refuses (env G) n checked_row e
        check-untaken e r =
            same-refusal (env G) n check_row checked_row e checked-is
            (later (env G) n _ _ e f (later (env G) n _ _ e written-all (here (env G) n wanted _ e
            (subst (λ m. Refuses (env G) n m e) wanted-is r))))

        module _ (ws : List code.Term) (us : List Mult) (t : Filled (env G) n behind_params vs ws us) (B : Term)
            (B-is : B ≡ sub (filled ws) (term M.ty)) where
          all-taken : Took (env G) n wanted params ws us
          all-taken = took (env G) n behind_params wanted vs ws params us wanted-is params-are t

          abbrev agreed_at : Place
          agreed_at = at s rule.ConCheck 4

          type-is : B ≡ sub (push (params +++ all-taken.given.cores) closed) made.sig.result
          type-is = B-is ∙ ap₂ (λ ts A. sub (push ts closed) A) all-taken.cores made.type

          pub check-differs : (e : ElabError) → Refuses (env G) n (agree (depth S) B A agreed_at) e →
              Refuses (env G) n checked_row e
          check-differs e r =
              same-refusal (env G) n check_row checked_row e checked-is
              (later (env G) n _ _ e f (later (env G) n _ _ e written-all (later (env G) n wanted _ e all-taken.reaches
              (here (env G) n _ _ e (subst (λ B. Refuses (env G) n (agree (depth S) B A agreed_at) e) type-is r)))))

          pub check-taken : Reaches (env G) n (agree (depth S) B A agreed_at) tt →
              Reaches (env G) n checked_row
              (judged A (node (Form.con c.family c.place M.params) (side_by_side (terms ws))) us)
          check-taken r =
              same-answer check_row checked_row _ checked-is
              (reached (on _ f (on _ written-all (on _ all-taken.reaches
              (on _ (subst (λ B. Reaches (env G) n (agree (depth S) B A agreed_at) tt) type-is r) on_done))))
              (same-judged refl
              (ap₂ (λ i ts. node (Form.con c.family c.place i) ts) (sym made.params) (sym all-taken.cores))
              (sym all-taken.uses)))

-- ---- lists by their first element
pub nothing-in : {A : Type 0} (xs : List A) → length xs < 1 → xs ≡ []
nothing-in [] h = refl
nothing-in (x ∷ xs) h = let no : ⊥ = omega (arith, h) in absurd no

pub first-in : {A : Type 0} (xs : List A) (x : A) → 1 ≤ length xs → x ≡ get_or xs 0 x →
    xs ≡ x ∷ take (length xs - 1) (drop 1 xs)
first-in [] x h e = let no : ⊥ = omega (arith, h) in absurd no
first-in (y ∷ ys) x h e =
    let n : length (y ∷ ys) - 1 ≡ length ys = omega arith in
    ap₂ (λ z zs. z ∷ zs) (sym e) (sym (ap (λ k. take k ys) n ∙ take_all (length ys) ys (omega arith)))

pub only-in : {A : Type 0} (xs : List A) (x : A) → 1 ≤ length xs → length xs < 2 → x ≡ get_or xs 0 x →
    xs ≡ x ∷ []
only-in [] x h k e = let no : ⊥ = omega (arith, h) in absurd no
only-in (y ∷ []) x h k e = ap (λ z. z ∷ []) (sym e)
only-in (y ∷ z ∷ zs) x h k e = let no : ⊥ = omega (arith, k) in absurd no

-- ---- arguments, the first of them, and the others
module _ (G : Entries) (p : Part) (S : Scope) (n : ℕ) (bs rs : List (Mult × code.Term))
    (es ss : List argument_code.Argument) (vs : List code.Term) (b : Mult × code.Term) (x : argument_code.Argument)
    (B : bs ≡ b ∷ rs) (X : es ≡ x ∷ ss) where
  abbrev whole : Asks Given
  whole = arguments G p S (tele bs) (filled vs) (argument_trees es)

  abbrev first : Asks Judged
  first = judge G (under p b.0) S (Mode.check (sub (filled vs) (term b.1))) (expression (argument_of x))

  parts : whole ≡
      arguments G p S ((b.0, term b.1) ∷ tele rs) (filled vs) (argument_and (argument_of x) (argument_trees ss))
  parts = ap₂ (λ bs es. arguments G p S (tele bs) (filled vs) (argument_trees es)) B X

  pub whole-first : (e : ElabError) → Refuses (env G) n first e → Refuses (env G) n whole e
  whole-first e h =
      subst (λ m. Refuses (env G) n m e) (sym parts)
      (first-refused G p S n (b.0, term b.1) (tele rs) (argument_of x) (argument_trees ss) vs e h)

  module _ (a : Judged) (t : code.Term) (core : term t ≡ a.core) (h : Reaches (env G) n first a) where
    abbrev others : Asks Given
    others = arguments G p S (tele rs) (filled (vs ++ t ∷ [])) (argument_trees ss)

    pub whole-rest : (e : ElabError) → Refuses (env G) n others e → Refuses (env G) n whole e
    whole-rest e r =
        subst (λ m. Refuses (env G) n m e) (sym parts)
        (rest-refused G p S n (b.0, term b.1) (tele rs) (argument_of x) (argument_trees ss) vs a t core h e r)

    pub whole-filled : (ws : List code.Term) (us more : List Mult) →
        us ≡ usage_sum (usage_scale b.0 a.uses) more → Filled (env G) n others (vs ++ t ∷ []) ws more →
        Filled (env G) n whole vs ws us
    whole-filled ws us more q f =
        subst (λ m. Filled (env G) n m vs ws us) (sym parts)
        (filled-more G p S n (b.0, term b.1) (tele rs) (argument_of x) (argument_trees ss) vs a t core h ws us more q f)

-- an argument of an application, and the others
pub applied-more : (G : Entries) (p : Part) (S : Scope) (s : Span) (f : Judged) (a : Argument) (es : Arguments) →
    applied G p S s f (argument_and a es) ≡
    function_of S f.type (at s rule.App 2)
    >>= (λ F. judge G (under p F.mult) S (Mode.check F.domain) (expression a)
    >>= (λ x. applied G p S s (applied_to f F.mult F.codomain x) es))
applied-more G p S s f (argument k e) es = refl

-- ---- an expression of this form
pub given-form : (G : Entries) (n : ℕ) (p : Part) (S : Scope) (m : Mode) (e t : Tree)
    (r : Result code_judged.Judged ElabError) → e ≡ t → Gives (env G) n (judge G p S m t) judged_as r →
    Gives (env G) n (judge G p S m e) judged_as r
given-form G n p S m e t r h x = subst (λ e. Gives (env G) n (judge G p S m e) judged_as r) (sym h) x

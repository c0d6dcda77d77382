-- The laws of whole groups.
use Rattle.std.proofs.Common.{◌≡◌, ℕ, ◌+◌, List, [], length, ◌∙◌, ap, subst, arith}
use Rattle.qtt_term.specs.Term.{Term, Terms, size}
use Rattle.qtt_term.specs.Substitution.{sub, push, closed, Closed}
use Rattle.qtt_term.specs.Signature.{Env}
use Rattle.qtt_term.specs.Value.{Value}
use Rattle.qtt_term.specs.Contraction.{BodiesClosed, Conv}
use Rattle.qtt_term.specs.Environment.{HasPrim}
use Rattle.qtt_term.specs.Judgement.{Part, Ctx, Judged, Args, TypedAll, ext}
use Rattle.qtt_term.proofs.Closed.{closed-kept}
use Rattle.qtt_preserve.specs.Within.{HasAll}
use Rattle.qtt_preserve.proofs.Exact.{typed-has}
use Rattle.qtt_preserve.proofs.Iota.{args-size}
use Rattle.qtt_preserve.proofs.Travel.{erase_all}
use Rattle.qtt_term.specs.Entries.{env}
use Rattle.qtt_split.specs.Tree.{Tree, lams, glue}
use Rattle.qtt_split.specs.Plan.{Opened, patterns_at}
use Rattle.qtt_split.specs.Group.{Defined}
use Rattle.qtt_split.specs.Relation.{RightSides, gives}
use Rattle.qtt_split.specs.Laws.{Unsolved, Deep, AllDeep, Reaches, applied_to, AllWide, MadeGroup, GoesOn, Plain, Examines, PlainClauseLaw, TypedClauseLaw}
use Rattle.qtt_clause_laws.proofs.Steps.{body-reaches}
use Rattle.qtt_clause_laws.proofs.Start.{length-ext, start-left, arguments-shown}
use Rattle.qtt_clause_laws.proofs.Deciding.{follows-after}
use Rattle.qtt_clause_laws.proofs.Plain.{deep-push, plain-law}
use Rattle.qtt_clause_laws.proofs.Fitting.{Same, whole-closed, whole-fields, fit-args}
use Rattle.qtt_clause_laws.proofs.Typed.{typed-law}

length-opened : (O : Opened) → length O.binders ≡ length (ext [] O.binders)
length-opened O = let e : length (ext [] O.binders) ≡ 0 + length O.binders = length-ext [] O.binders in omega arith

body-goes : {E : Env} (O : Opened) (b : Term) (vs : Terms) → size vs ≡ length O.binders → AllDeep E vs →
    Closed (lams O.binders b) →
    Reaches E (applied_to (lams O.binders b) O.binders vs) (sub (push vs closed) b)
body-goes {E} O b vs z d c = subst (λ t. Reaches E (applied_to t O.binders vs) (sub (push vs closed) b))
    (closed-kept (lams O.binders b) c closed) (body-reaches O.binders b closed vs z d)

deep-closed : {E : Env} (i : ℕ) → Deep E (closed i)
deep-closed i = Deep.plain Value.sort (λ f c k ts e. cc e)

-- whatever relation gives the right sides
pub plain-goes : (side : RightSides) (D : Defined) (O : Opened) (T : Tree) (sides : Terms) →
    MadeGroup side D O T sides → Plain D.group.globals T → (vs : Terms) → size vs ≡ length O.binders →
    AllDeep (env D.group.globals) vs → Examines D.group.globals T (push vs closed) →
    GoesOn Unsolved side D O T sides vs
plain-goes side D O T sides made pl vs z d ex =
    follows-after (body-goes O (glue T sides) vs z d made.closed)
    (plain-law D.group.globals side D.group.clauses vs d made.made pl (push vs closed)
    (deep-push vs closed deep-closed d) ex
    (arguments-shown D.group.globals Unsolved vs (length (ext [] O.binders)) (z ∙ length-opened O))
    (start-left D.group.globals D.group.clauses vs (ext [] O.binders) 0 D.group.clauses
    (subst (λ n. AllWide n D.group.clauses) (length-opened O) made.wide)
    (λ j. ap (patterns_at D.group.clauses) (omega arith))))

pub plain_clause_law_holds : PlainClauseLaw
plain_clause_law_holds side D O T sides made pl vs z d ex = plain-goes (gives side) D O T sides made pl vs z d ex

all-has : {E : Env} {p : Part} {Γ : Ctx} {ns : List ℕ} {ts : Terms} {js : List Judged} → TypedAll E p Γ ns ts js →
    HasAll E p Γ ns ts js
all-has TypedAll.none = HasAll.none
all-has (TypedAll.more e h f hs) = HasAll.more e (typed-has h) f (all-has hs)

pub typed-goes : (side : RightSides) (D : Defined) (O : Opened) (T : Tree) (sides : Terms) →
    HasPrim (env D.group.globals) → BodiesClosed (env D.group.globals) → MadeGroup side D O T sides →
    (vs : Terms) (js : List Judged) → AllDeep (env D.group.globals) vs → Args O.binders closed vs js →
    TypedAll (env D.group.globals) Part.run [] [] vs js → GoesOn (Conv (env D.group.globals)) side D O T sides vs
typed-goes side D O T sides prims bodies made vs js d a h =
    let z : size vs ≡ length O.binders = args-size a in
    let hs = erase_all (all-has h) in
    follows-after (body-goes O (glue T sides) vs z d made.closed)
    (typed-law D.group.globals prims bodies side D.group.clauses vs d made.made (push vs closed)
    (whole-fields a hs d closed whole-closed) (fit-args a hs [] (λ i s. absurd s))
    (arguments-shown D.group.globals (Same (env D.group.globals)) vs (length (ext [] O.binders)) (z ∙ length-opened O))
    (start-left D.group.globals D.group.clauses vs (ext [] O.binders) 0 D.group.clauses
    (subst (λ n. AllWide n D.group.clauses) (length-opened O) made.wide)
    (λ j. ap (patterns_at D.group.clauses) (omega arith))))

pub typed_clause_law_holds : TypedClauseLaw
typed_clause_law_holds side D O T sides prims bodies made vs js d a h =
    typed-goes (gives side) D O T sides prims bodies made vs js d a h

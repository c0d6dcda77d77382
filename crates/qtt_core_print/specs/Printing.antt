-- The printed text of a core term, a line a form.
-- Binders have no names: a variable is printed by its level, which is the number of binders around its own. In each
-- definition n binders stand around the term.
use Rattle.std.specs.Prelude.{ℕ, zero, suc, ◌+◌, ◌-◌, nat_lt, ◌==◌, if◌then◌else◌, List, [], ◌∷◌, ◌++◌, flat_map, take, drop, length, slice_index_or, Option, Some, None, codes, decimal}
use Rattle.std.specs.Fmt.{signed_decimal}
use Rattle.qtt_base.specs.declared.place.GlobalId.{GlobalId}
use Rattle.qtt_usage.specs.declared.mult.Mult.{Mult}
use Rattle.qtt_usage.specs.Mult.{𝟘, 𝟙, ω}
use Rattle.qtt_prims.specs.declared.prim.ActKind.{ActKind}
use Rattle.qtt_prims.specs.declared.prim.ActKind.TheVariants as act_kind
use Rattle.qtt_prims.specs.declared.lit.Lit.{Lit}
use Rattle.qtt_prims.specs.declared.lit.Lit.TheVariants as literal
use Rattle.qtt_prims.specs.PrimNames.{prim_name, action_name}
use Rattle.qtt_term.specs.Term.{Io, PrimTy, Action, Named, Form, binders, first, rest, Term, Terms, var, node, ε, ◌▸◌}
use Rattle.qtt_term.specs.Items.{DefinitionEntry}
use Rattle.qtt_term.specs.Entries.{Entries}
use Rattle.qtt_core_print.specs.Names.{family_name, definition_name, constructor_name}

-- ---- words
abbrev pub behind_blank : List ℕ → List ℕ
behind_blank w = 32 ∷ w

-- words, each behind a blank
abbrev pub behind_blanks : List (List ℕ) → List ℕ
behind_blanks = flat_map behind_blank

abbrev pub in_braces : List ℕ → List ℕ
in_braces w = codes "{" ++ w ++ codes "}"

-- a byte of a text: line feed, tab, `\` and `"` are escaped
abbrev pub escaped : ℕ → List ℕ
escaped b =
    if b == 10 then codes "\\n"
    else (if b == 9 then codes "\\t"
    else (if b == 92 then codes "\\\\"
    else (if b == 34 then codes "\\\""
    else b ∷ [])))

abbrev pub quoted : List ℕ → List ℕ
quoted v = codes "\"" ++ flat_map escaped v ++ codes "\""

-- ---- variables and multiplicities
-- the binder at level l
abbrev pub binder_at : ℕ → List ℕ
binder_at l = codes "x" ++ decimal l

-- the next k binders
abbrev pub next_binders : ℕ → ℕ → List (List ℕ)
next_binders n zero = []
next_binders n (suc k) = binder_at n ∷ next_binders (suc n) k

-- variable i, `x_` where it has no binder
abbrev pub variable : ℕ → ℕ → List ℕ
variable n i = if nat_lt i n then binder_at (n - suc i) else codes "x_"

abbrev pub mult_word : Mult → List ℕ
mult_word 𝟘 = codes "0"
mult_word 𝟙 = codes "1"
mult_word ω = codes "many"

-- before a binder; nothing for many
abbrev pub mark : Mult → List ℕ
mark 𝟘 = codes "0 "
mark 𝟙 = codes "1 "
mark ω = []

-- before an argument
abbrev pub at_mark : Mult → List ℕ
at_mark 𝟘 = codes "@0 "
at_mark 𝟙 = codes "@1 "
at_mark ω = []

-- (q x : A), the next binder
unfoldable pub binding : ℕ → Mult → List ℕ → List ℕ
binding n q A = codes "(" ++ mark q ++ binder_at n ++ codes " : " ++ A ++ codes ")"

-- ---- names applied to arguments, of which the first k stand in braces
abbrev pub braced : ℕ → List (List ℕ) → List (List ℕ)
braced zero ts = ts
braced (suc k) [] = []
braced (suc k) (t ∷ ts) = in_braces t ∷ braced k ts

abbrev pub applied : List ℕ → List (List ℕ) → List ℕ
applied name [] = name
applied name (t ∷ ts) = codes "(" ++ name ++ behind_blanks (t ∷ ts) ++ codes ")"

abbrev pub prim_ty_name : PrimTy → List ℕ
prim_ty_name PrimTy.int = codes "Int"
prim_ty_name PrimTy.string = codes "String"
prim_ty_name PrimTy.handle = codes "Handle"
prim_ty_name (PrimTy.io_of Io.io) = codes "IO"
prim_ty_name (PrimTy.io_of Io.io1) = codes "IO1"

abbrev pub kind_of : Action → ActKind
kind_of (Action.pure Io.io) = act_kind.Pure
kind_of (Action.pure Io.io1) = act_kind.Pure1
kind_of (Action.bind Io.io Io.io) = act_kind.BindIoIo
kind_of (Action.bind Io.io Io.io1) = act_kind.BindIoIo1
kind_of (Action.bind Io.io1 Io.io) = act_kind.BindIo1Io
kind_of (Action.bind Io.io1 Io.io1) = act_kind.BindIo1Io1
kind_of Action.put_line = act_kind.PutLine
kind_of Action.get_line = act_kind.GetLine
kind_of Action.opens = act_kind.Open
kind_of Action.writes = act_kind.Write
kind_of Action.closes = act_kind.Close

abbrev pub literal_text : Lit → List ℕ
literal_text (literal.Int z) = signed_decimal z
literal_text (literal.Text s) = quoted s

-- type arguments of an action stand in braces
abbrev pub named_text : Entries → Named → List (List ℕ) → List ℕ
named_text N (Named.def d) ts = definition_name N d
named_text N (Named.lit l) ts = literal_text l
named_text N (Named.prim_ty p) ts = applied (prim_ty_name p) ts
named_text N (Named.prim p) ts = applied (prim_name p) ts
named_text N (Named.act a k) ts = applied (action_name (kind_of a)) (braced k ts)

-- ---- a Case
-- what stands before a branch: a `;` before each but the first
abbrev pub lead : ℕ → List ℕ
lead zero = codes " "
lead (suc c) = codes "; "

-- C xL xK => b, for the constructor at place c, with k fields
abbrev pub branch_text : Entries → ℕ → GlobalId → ℕ → ℕ → List ℕ → List ℕ
branch_text N n f c k b =
    lead c ++ constructor_name N f c ++ behind_blanks (next_binders n k) ++ codes " => " ++ b

-- for the constructors from place c on
abbrev pub branch_texts : Entries → ℕ → GlobalId → ℕ → List ℕ → List (List ℕ) → List ℕ
branch_texts N n f c (k ∷ ks) (b ∷ bs) = branch_text N n f c k b ++ branch_texts N n f (suc c) ks bs
branch_texts N n f c _ _ = []

-- (WORD M, and a blank
unfoldable pub match_head : List ℕ → Mult → List ℕ
match_head word q = codes "(" ++ word ++ codes " " ++ mult_word q ++ codes " "

-- motive xL xK => P, under m binders
unfoldable pub motive_text : ℕ → ℕ → List ℕ → List ℕ
motive_text n m P = codes " motive" ++ behind_blanks (next_binders n m) ++ codes " => " ++ P

-- (WORD M S motive xL xK => P { .. })
abbrev pub match_text : List ℕ → Mult → List ℕ → ℕ → ℕ → List ℕ → List ℕ → List ℕ
match_text word q s n m P bs =
    match_head word q ++ s ++ motive_text n m P ++ codes " {" ++ bs ++ codes " })"

-- of the motive, the branches and the scrutinee
abbrev pub case_text : Entries → ℕ → Mult → GlobalId → ℕ → List ℕ → List (List ℕ) → List ℕ
case_text N n q f m ks [] = codes "_"
case_text N n q f m ks (P ∷ ts) =
    match_text (codes "case") q (slice_index_or ts (length ks) (codes "_")) n m P
    (branch_texts N n f 0 ks (take (length ks) ts))

-- ---- terms
-- a form with its components, each of which is printed already; `_` where there are others than the form has
abbrev pub form_text : Entries → ℕ → Form → List (List ℕ) → List ℕ
form_text N n (Form.sort l) [] = codes "Type " ++ decimal l
form_text N n (Form.pi q) (A ∷ B ∷ []) = codes "(" ++ binding n q A ++ codes " -> " ++ B ++ codes ")"
form_text N n (Form.lam q) (A ∷ b ∷ []) = codes "(\\" ++ binding n q A ++ codes " => " ++ b ++ codes ")"
form_text N n (Form.app q) (f ∷ a ∷ []) = codes "(" ++ f ++ codes " " ++ at_mark q ++ a ++ codes ")"
form_text N n (Form.fam f) ts = applied (family_name N f) ts
form_text N n (Form.con f c k) ts = applied (constructor_name N f c) (braced k ts)
form_text N n (Form.case q f k m ks) ts = case_text N n q f m ks (drop k ts)
form_text N n (Form.delete q) (A ∷ s ∷ P ∷ b ∷ e ∷ []) =
    match_text (codes "delete") q e n 1 P (codes " " ++ b)
form_text N n (Form.named x) ts = named_text N x ts
form_text N n Form.trap (A ∷ []) = codes "(trap " ++ A ++ codes ")"
form_text N n (Form.tape k) [] = codes "(tape " ++ decimal k ++ codes ")"
form_text N n F ts = codes "_"

abbrev mutual
  pub text : Entries → ℕ → Term → List ℕ
  text N n (var i) = variable n i
  text N n (node F ts) = form_text N n F (texts N n (binders F) ts)

  -- components, which stand under further binders
  pub texts : Entries → ℕ → List ℕ → Terms → List (List ℕ)
  texts N n ns ε = []
  texts N n ns (t ▸ ts) = text N (first ns + n) t ∷ texts N n (rest ns) ts

-- ---- definitions
abbrev pub zero_mark : Mult → List ℕ
zero_mark 𝟘 = codes "0 "
zero_mark 𝟙 = []
zero_mark ω = []

abbrev pub body_text : Entries → Option Term → List ℕ
body_text N None = []
body_text N (Some b) = codes " = " ++ text N 0 b

-- [0] NAME : TYPE [= TERM]
abbrev pub definition_text : Entries → DefinitionEntry → List ℕ
definition_text N d =
    zero_mark d.definition.mult ++ definition_name N d.id ++ codes " : " ++ text N 0 d.definition.type ++
    body_text N d.definition.body

-- The printed words of a tree that the grammar allows lead from state to state.
use Rattle.std.proofs.Common.{◌≡◌, ℕ, suc, ◌+◌, ◌<◌, ◌≤◌, nat_eq, ◌==◌, ◌&&◌, pos, negsuc, Bool, true, false, cond, List, [], ◌∷◌, ◌++◌, refl, arith, codes}
use Rattle.qtt_base.specs.declared.place.Span.{Span}
use Rattle.qtt_usage.specs.declared.mult.Mult.{Mult}
use Rattle.qtt_usage.specs.declared.mult.Mult.TheVariants as mult
use Rattle.qtt_lexer.specs.Characters.{begins}
use Rattle.qtt_layout.specs.declared.block.Block.{Block}
use Rattle.qtt_layout.specs.declared.role.Role.TheVariants as role
use Rattle.qtt_syntax.specs.declared.expr.Mark.{Mark}
use Rattle.qtt_syntax.specs.declared.expr.Mark.TheVariants.{Written, Braced, Inserted}
use Rattle.qtt_syntax.specs.Tree.{Tree, Annotation, Arguments, Binder, Binders, Statement, Statements}
use Rattle.qtt_syntax.specs.Tree.Tree.{name, number, text, universe, hole, the, apply, pi, lambda, letting, doing}
use Rattle.qtt_syntax.specs.Tree.Annotation.{untyped, typed as annotated}
use Rattle.qtt_syntax.specs.Tree.Argument.{argument}
use Rattle.qtt_syntax.specs.Tree.Arguments.{no_argument, argument_and}
use Rattle.qtt_syntax.specs.Tree.Binder.{plain, typed_binder}
use Rattle.qtt_syntax.specs.Tree.Binders.{no_binder, binder_and}
use Rattle.qtt_syntax.specs.Tree.Statement.{bind, local, run}
use Rattle.qtt_syntax.specs.Tree.Statements.{no_statement, statement_and}
use Rattle.qtt_syntax.specs.Words.{Word, Printed}
use Rattle.qtt_syntax.specs.Words.Word.{sign, named, numeral, bare_type, type_at, quoted, hole_named}
use Rattle.qtt_syntax.specs.Words.Printed.{word, blank, line, opened, next, closed}
use Rattle.qtt_syntax.specs.Printing.{key, is_number, is_atom, is_app, in_brackets, bracketed, is_level_0, atom, number_first, ends_open, broken as broken_words, parted, is_negative, app_negative, is_arrow, begins_negative, braced, marked, binding, domain, let_head, annotation_open, expr, annotation, arguments, binders, binder, statements, more_statements, statement}
use Rattle.qtt_grammar.specs.declared.class.Pass.{Pass}
use Rattle.qtt_reprint.proofs.Formed as formed
use Rattle.qtt_reprint.proofs.Gives.{Each}
use Rattle.qtt_reprint.proofs.Steps.{Fit, Left, Loose, Untyped, Blanked, spaced, Sign, Follows, Mode, Ready, State, Under, block_at, Step, Goes, stays, steps, goes_then, goes_wider, is_natural_word}
use Rattle.qtt_reprint.proofs.Steps.Left.{free, wordy, typed, brace}
use Rattle.qtt_reprint.proofs.Steps.Loose.{loose_free, loose_wordy, loose_typed}
use Rattle.qtt_reprint.proofs.Steps.Untyped.{untyped_free, untyped_wordy}
use Rattle.qtt_reprint.proofs.Steps.Blanked.{blanked_free, blanked_typed}
use Rattle.qtt_reprint.proofs.Steps.Sign.{arrow_sign, backslash_sign, brace_sign, colon_sign, do_sign, end_brace_sign, equals_sign, fat_arrow_sign, in_sign, left_arrow_sign, left_sign, let_sign, the_sign}
use Rattle.qtt_reprint.proofs.Steps.IsWord.{a_sign, a_name, a_numeral, a_type, a_level, a_text, a_hole}
use Rattle.qtt_reprint.proofs.Steps.Mode.{inline, fresh, opening}
use Rattle.qtt_reprint.proofs.Steps.Ready.{ready_inline, ready_fresh}
use Rattle.qtt_reprint.proofs.Steps.State.{at}
use Rattle.qtt_reprint.proofs.Steps.Step.{plain_word, opener_word, left_bracket, right_bracket, a_blank, breaks, resumes, ends_item, begins_item, opens, indents, shuts}

-- ---- states behind words

-- a block that opened in an expression whose enclosing block stands behind c blanks, with k brackets open
abbrev pub Deep : ℕ → ℕ → Block → Type 0
Deep c k x = (c + 3 ≤ x.col) × (k ≤ x.brackets)

-- the enclosing block stands behind c blanks
pub record Within (c k : ℕ) (bs : List Block) : Type 0 where
  pub others : List Block
  pub newest : Block
  pub are : bs ≡ others ++ newest ∷ []
  pub col : newest.col ≡ c + 1
  pub brackets : newest.brackets ≤ k

-- behind an expression: blocks may have closed there
pub data Ends (c k : ℕ) (bs : List Block) (unclosed : Bool) : State → Type 0 where
  ends : (l : Left) (shut : List Block) → Loose l → Each (Deep c k) shut → (unclosed ≡ false → shut ≡ [])
      → Ends c k bs unclosed (at l (inline false shut) bs k)

abbrev pub Fine : Bool → Left → Type 0
Fine true l = Untyped l
Fine false l = Loose l

-- behind an atom, or one that a number may follow
pub data Stands (b : Bool) (k : ℕ) (bs : List Block) : State → Type 0 where
  stands : (l : Left) → Fine b l → Stands b k bs (at l (inline false []) bs k)

-- where a keyword or a symbol may stand that ends an expression
pub data Resumes (k : ℕ) (bs : List Block) : State → Type 0 where
  resumed : (l : Left) (m : Mode) → Ready m → Blanked l → Resumes k bs (at l m bs k)

loose_of : (l : Left) → Untyped l → Loose l
loose_of l untyped_free = loose_free
loose_of l untyped_wordy = loose_wordy

fine_loose : (b : Bool) (l : Left) → Fine b l → Loose l
fine_loose true l f = loose_of l f
fine_loose false l f = f

fine_free : (b : Bool) → Fine b free
fine_free true = untyped_free
fine_free false = loose_free

fine_wordy : (b : Bool) → Fine b wordy
fine_wordy true = untyped_wordy
fine_wordy false = loose_wordy

blanked_of : (l : Left) → Loose l → Blanked (spaced l)
blanked_of l loose_free = blanked_free
blanked_of l loose_wordy = blanked_free
blanked_of l loose_typed = blanked_typed

untyped_blank : (l : Left) → Untyped l → spaced l ≡ free
untyped_blank l untyped_free = refl
untyped_blank l untyped_wordy = refl

-- what is no natural number may follow a blank
pub blanked_follows : (l : Left) (w : Word) → Blanked l → is_natural_word w ≡ false → Follows l w
blanked_follows l w blanked_free e = tt
blanked_follows l w blanked_typed e = e

loose_brace : (l : Left) → Loose l → Follows l (sign (codes "}"))
loose_brace l loose_free = tt
loose_brace l loose_wordy = refl
loose_brace l loose_typed = refl

pub within_more : {c k : ℕ} {bs : List Block} → Within c k bs → Within c (suc k) bs
within_more w = record {
  others = w.others;
  newest = w.newest;
  are = w.are;
  col = w.col;
  brackets = omega (arith, w.brackets);
}

under_brackets : {c k : ℕ} {bs : List Block} → Within c k bs → Under (λ x. x.brackets ≤ k) bs
under_brackets w = record { others = w.others; newest = w.newest; are = w.are; is = w.brackets }

pub under_left : {c k : ℕ} {bs : List Block} → Within c k bs → Under (λ x. x.col < c + 2) bs
under_left w = record { others = w.others; newest = w.newest; are = w.are; is = omega (arith, w.col) }

pub under_same : {c k : ℕ} {bs : List Block} → Within c k bs → Under (λ x. x.col ≡ c + 1) bs
under_same w = record { others = w.others; newest = w.newest; are = w.are; is = w.col }

under_deeper : {c k : ℕ} {bs : List Block} → Within c k bs → Under (λ x. x.col < (c + 2) + 1) bs
under_deeper w = record { others = w.others; newest = w.newest; are = w.are; is = omega (arith, w.col) }

pub each_wider : {P Q : Block → Type 0} (xs : List Block) → ((x : Block) → P x → Q x) → Each P xs → Each Q xs
each_wider [] f e = tt
each_wider (x ∷ xs) f e = (f x e.0, each_wider xs f e.1)

deep_outside : (c k : ℕ) (xs : List Block) → Each (Deep (c + 2) k) xs → Each (Deep c k) xs
deep_outside c k xs e = each_wider xs (λ x d. (omega (arith, d.0), d.1)) e

-- ---- first words

abbrev is_right : Word → Bool
is_right (sign s) = begins (λ c. c == 41) s
is_right (named n) = false
is_right (numeral z) = false
is_right bare_type = false
is_right (type_at l) = false
is_right (quoted v) = false
is_right (hole_named n) = false

-- a word stands first, and it may follow
abbrev First : Left → List Printed → Type 0
First l [] = ⊥
First l (word w ∷ ps) = (is_right w ≡ false) × Follows l w
First l (blank ∷ ps) = ⊥
First l (line n ∷ ps) = ⊥
First l (opened ∷ ps) = ⊥
First l (next ∷ ps) = ⊥
First l (closed ∷ ps) = ⊥

restart_step : (l : Left) (m : Mode) (bs : List Block) (k : ℕ) (w : Word) (v : State) → is_right w ≡ false → Follows l w
    → Step (at free m bs k) (word w) v → Step (at l m bs k) (word w) v
restart_step l m bs k w v e f (plain_word r i g) = plain_word r i f
restart_step l m bs k w v e f (opener_word r i g) = opener_word r i f
restart_step l m bs k w v e f (left_bracket r i g) = left_bracket r i f
restart_step l m bs k w v e f (right_bracket lo a u) = absurd (let h = e in cc)

pub restart : {m : Mode} {bs : List Block} {k : ℕ} {R : State → Type 0} (l : Left) (ps : List Printed) → First l ps
    → Goes (at free m bs k) ps R → Goes (at l m bs k) ps R
restart l [] f g = absurd f
restart {m} {bs} {k} l (word w ∷ ps) f g =
    let r = g.runs in record {
      last = g.last;
      runs = (r.0, (restart_step l m bs k w r.0 f.0 f.1 r.1.0, r.1.1));
      is = g.is;
    }
restart l (blank ∷ ps) f g = absurd f
restart l (line n ∷ ps) f g = absurd f
restart l (opened ∷ ps) f g = absurd f
restart l (next ∷ ps) f g = absurd f
restart l (closed ∷ ps) f g = absurd f

-- ---- parts of expressions

module _ {l b : Left} {m : Mode} {bs : List Block} {k : ℕ} {s : List ℕ} {ps : List Printed} {R : State → Type 0} where
  -- a keyword or a symbol
  pub keyed : Sign s b role.Plain → Ready m → Follows l (sign s) → Goes (at b (inline false []) bs k) ps R
      → Goes (at l m bs k) (key s ∷ ps) R
  keyed i r f g = steps (plain_word r (a_sign i) f) g

  pub opened_by : Sign s b role.LeftBracket → Ready m → Follows l (sign s) →
      Goes (at b (inline false []) bs (suc k)) ps R
      → Goes (at l m bs k) (key s ∷ ps) R
  opened_by i r f g = steps (left_bracket r (a_sign i) f) g

pub name_then : {n : List ℕ} {m : Mode} {bs : List Block} {k : ℕ} {ps : List Printed} {R : State → Type 0} →
    Fit (named n) → Ready m
    → Goes (at wordy (inline false []) bs k) ps R → Goes (at free m bs k) (word (named n) ∷ ps) R
name_then f r g = steps (plain_word r (a_name f) tt) g

-- `)` behind an expression
pub bracket_ends : {b : Bool} {c k : ℕ} {bs : List Block} (u : State) → Within c k bs → Ends c (suc k) bs b u
    → Goes u (key (codes ")") ∷ []) (Stands true k bs)
bracket_ends u w (ends l shut o d n) =
    steps (right_bracket o (each_wider shut (λ x e. e.1) d) (under_brackets w)) (stays (stands free untyped_free))

pub bracketed_goes : {b : Bool} {c k : ℕ} {bs : List Block} {m : Mode} {ws : List Printed} → Within c k bs → Ready m
    → Goes (at free (inline false []) bs (suc k)) ws (Ends c (suc k) bs b) →
    Goes (at free m bs k) (in_brackets ws) (Stands true k bs)
bracketed_goes w r g = opened_by left_sign r tt (goes_then g (λ u e. bracket_ends u w e))

-- before a symbol that must end an open `do`
pub parted_goes : {c k : ℕ} {bs : List Block} (b : Bool) (u : State) → Within c k bs → Ends c k bs b u →
    Goes u (parted c b) (Resumes k bs)
parted_goes {c} true u w (ends l shut o d n) =
    steps (breaks c)
    (steps (resumes (each_wider shut (λ x e. omega (arith, e.0)) d) (under_left w))
    (stays (resumed (spaced l) fresh ready_fresh (blanked_of l o))))
parted_goes false u w (ends l shut o d n) =
    rw (n refl) (steps a_blank (stays (resumed (spaced l) (inline false []) ready_inline (blanked_of l o))))

-- `}` behind an expression
pub brace_ends : {c k : ℕ} {bs : List Block} (b : Bool) (u : State) → Within c k bs → Ends c k bs b u
    → Goes u (broken_words c b ++ key (codes "}") ∷ []) (Stands true k bs)
brace_ends {c} true u w (ends l shut o d n) =
    steps (breaks c)
    (steps (resumes (each_wider shut (λ x e. omega (arith, e.0)) d) (under_left w))
    (keyed end_brace_sign ready_fresh (blanked_follows (spaced l) (sign (codes "}")) (blanked_of l o) refl)
    (stays (stands free untyped_free))))
brace_ends false u w (ends l shut o d n) =
    rw (n refl) (keyed end_brace_sign ready_inline (loose_brace l o) (stays (stands free untyped_free)))

marked_goes : {k : ℕ} {bs : List Block} {R : State → Type 0} {ps : List Printed} {md : Mode} (m : Mult) → Ready md
    → ((n : Mode) → Ready n → Goes (at free n bs k) ps R) → Goes (at free md bs k) (marked m ++ ps) R
marked_goes mult.Zero r g =
    steps (plain_word r (a_numeral (omega arith)) tt) (steps a_blank (g (inline false []) ready_inline))
marked_goes mult.One r g =
    steps (plain_word r (a_numeral (omega arith)) tt) (steps a_blank (g (inline false []) ready_inline))
marked_goes mult.Many r g = g _ r

-- [mark] bname ":" and what stands behind it
pub binding_goes : {k : ℕ} {bs : List Block} {R : State → Type 0} {ws : List Printed} {md : Mode} (m : Mult)
    (n : List ℕ) → Ready md
    → Fit (named n) → Goes (at free (inline false []) bs k) ws R → Goes (at free md bs k) (binding m n ws) R
binding_goes m n r f g = marked_goes m r
    (λ md q. name_then f q (steps a_blank (keyed colon_sign ready_inline tt (steps a_blank g))))

-- where an expression may begin it goes on to its end
abbrev pub Expression : ℕ → Tree → Type 0
Expression c t =
    (k : ℕ) (bs : List Block) (m : Mode) → Ready m → Within c k bs →
    Goes (at free m bs k) (expr c t) (Ends c k bs (ends_open t))

-- ---- atoms

level_goes : {k : ℕ} {bs : List Block} {m : Mode} (b v : Bool) (i : ℕ) → nat_eq i 0 ≡ v →
    (b && v) ≡ false → Fit (type_at i) → Ready m
    → Goes (at free m bs k) (word (cond v bare_type (type_at i)) ∷ []) (Stands b k bs)
level_goes true true i e f g r = absurd cc
level_goes false true i e f g r = steps (plain_word r a_type tt) (stays (stands typed loose_typed))
level_goes b false i e f g r = steps (plain_word r (a_level g) tt) (stays (stands wordy (fine_wordy b)))

atom_ends : (b : Bool) {k : ℕ} {bs : List Block} (u : State) → Stands true k bs u → Stands b k bs u
atom_ends true u s = s
atom_ends false u (stands l f) = stands l (loose_of l f)

module _ (pass : Pass) where
  abbrev F : Tree → Type 0
  F = formed.Formed Fit pass

  -- an atom that isn't `Type` of level 0 before a number
  plain_atom : (b : Bool) (c k : ℕ) (bs : List Block) (m : Mode) (t : Tree) → F t →
      (b && is_level_0 t) ≡ false → Ready m → Within c k bs
      → Expression c t → Goes (at free m bs k) (bracketed (is_atom t) (expr c t)) (Stands b k bs)
  plain_atom b c k bs m (name n) f e r w g = name_then f.1.1 r (stays (stands wordy (fine_wordy b)))
  plain_atom b c k bs m (number z s) f e r w g =
      steps (plain_word r (a_numeral f) tt) (stays (stands wordy (fine_wordy b)))
  plain_atom b c k bs m (text v s) f e r w g = steps (plain_word r (a_text f.1) tt) (stays (stands free (fine_free b)))
  plain_atom b c k bs m (universe i is s) f e r w g = level_goes b (nat_eq i 0) i refl e f.1 r
  plain_atom b c k bs m (hole n s) f e r w g =
      goes_wider (bracketed_goes w r (g (suc k) bs (inline false []) ready_inline (within_more w))) (atom_ends b)
  plain_atom b c k bs m (the t u s) f e r w g =
      goes_wider (bracketed_goes w r (g (suc k) bs (inline false []) ready_inline (within_more w))) (atom_ends b)
  plain_atom b c k bs m (apply h args s) f e r w g =
      goes_wider (bracketed_goes w r (g (suc k) bs (inline false []) ready_inline (within_more w))) (atom_ends b)
  plain_atom b c k bs m (pi i q n d v s) f e r w g =
      goes_wider (bracketed_goes w r (g (suc k) bs (inline false []) ready_inline (within_more w))) (atom_ends b)
  plain_atom b c k bs m (lambda ps t s) f e r w g =
      goes_wider (bracketed_goes w r (g (suc k) bs (inline false []) ready_inline (within_more w))) (atom_ends b)
  plain_atom b c k bs m (letting q n t d v s) f e r w g =
      goes_wider (bracketed_goes w r (g (suc k) bs (inline false []) ready_inline (within_more w))) (atom_ends b)
  plain_atom b c k bs m (doing ss s) f e r w g =
      goes_wider (bracketed_goes w r (g (suc k) bs (inline false []) ready_inline (within_more w))) (atom_ends b)

  atom_by : (v b : Bool) (c k : ℕ) (bs : List Block) (m : Mode) (t : Tree) →
      (b && is_level_0 t) ≡ v → F t → Ready m → Within c k bs
      → Expression c t → Goes (at free m bs k) (cond v (word (type_at 0) ∷ []) (bracketed (is_atom t) (expr c t)))
      (Stands b k bs)
  atom_by true b c k bs m t e f r w g =
      steps (plain_word r (a_level (omega arith)) tt) (stays (stands wordy (fine_wordy b)))
  atom_by false b c k bs m t e f r w g = plain_atom b c k bs m t f e r w g

  atom_goes : (b : Bool) (c k : ℕ) (bs : List Block) (m : Mode) (t : Tree) → F t → Ready m → Within c k bs →
      Expression c t
      → Goes (at free m bs k) (atom b t (expr c t)) (Stands b k bs)
  atom_goes b c k bs m t f r w g = atom_by (b && is_level_0 t) b c k bs m t refl f r w g

  -- ---- what may follow `Type` and a blank, or `{`

  level_first : (l : Left) (v : Bool) (i : ℕ) → Blanked l → First l (word (cond v bare_type (type_at i)) ∷ [])
  level_first l true i a = (refl, blanked_follows l bare_type a refl)
  level_first l false i a = (refl, blanked_follows l (type_at i) a refl)

  plain_first : (l : Left) (c : ℕ) (t : Tree) → is_number t ≡ false → Blanked l →
      First l (bracketed (is_atom t) (expr c t))
  plain_first l c (name n) e a = (refl, blanked_follows l (named n.path) a refl)
  plain_first l c (number z s) e a = absurd cc
  plain_first l c (text v s) e a = (refl, blanked_follows l (quoted v) a refl)
  plain_first l c (universe i is s) e a = level_first l (nat_eq i 0) i a
  plain_first l c (hole n s) e a = (refl, blanked_follows l (sign (codes "(")) a refl)
  plain_first l c (the t u s) e a = (refl, blanked_follows l (sign (codes "(")) a refl)
  plain_first l c (apply h args s) e a = (refl, blanked_follows l (sign (codes "(")) a refl)
  plain_first l c (pi i q n d v s) e a = (refl, blanked_follows l (sign (codes "(")) a refl)
  plain_first l c (lambda ps t s) e a = (refl, blanked_follows l (sign (codes "(")) a refl)
  plain_first l c (letting q n t d v s) e a = (refl, blanked_follows l (sign (codes "(")) a refl)
  plain_first l c (doing ss s) e a = (refl, blanked_follows l (sign (codes "(")) a refl)

  atom_first : (v : Bool) (l : Left) (c : ℕ) (t : Tree) → is_number t ≡ false → Blanked l
      → First l (cond v (word (type_at 0) ∷ []) (bracketed (is_atom t) (expr c t)))
  atom_first true l c t e a = (refl, blanked_follows l (type_at 0) a refl)
  atom_first false l c t e a = plain_first l c t e a

  -- an atom behind a blank, where no number stands behind `Type`
  next_atom_by : (i : Bool) (b : Bool) (c k : ℕ) (bs : List Block) (l : Left) (t : Tree) → is_number t ≡ i →
      Fine i l → F t → Within c k bs
      → Expression c t → Goes (at (spaced l) (inline false []) bs k) (atom b t (expr c t)) (Stands b k bs)
  next_atom_by true b c k bs l t e f g w h =
      rw (untyped_blank l f) (atom_goes b c k bs (inline false []) t g ready_inline w h)
  next_atom_by false b c k bs l t e f g w h =
      restart (spaced l) (atom b t (expr c t)) (atom_first (b && is_level_0 t) (spaced l) c t e (blanked_of l f))
      (atom_goes b c k bs (inline false []) t g ready_inline w h)

  next_atom : (b : Bool) (c k : ℕ) (bs : List Block) (l : Left) (t : Tree) → Fine (is_number t) l → F t →
      Within c k bs → Expression c t
      → Goes (at (spaced l) (inline false []) bs k) (atom b t (expr c t)) (Stands b k bs)
  next_atom b c k bs l t f g w h = next_atom_by (is_number t) b c k bs l t refl f g w h

  first_append : (l : Left) (ps qs : List Printed) → First l ps → First l (ps ++ qs)
  first_append l [] qs f = absurd f
  first_append l (word w ∷ ps) qs f = f
  first_append l (blank ∷ ps) qs f = absurd f
  first_append l (line n ∷ ps) qs f = absurd f
  first_append l (opened ∷ ps) qs f = absurd f
  first_append l (next ∷ ps) qs f = absurd f
  first_append l (closed ∷ ps) qs f = absurd f

  level_dash : (v : Bool) (i : ℕ) → First brace (word (cond v bare_type (type_at i)) ∷ [])
  level_dash true i = (refl, refl)
  level_dash false i = (refl, refl)

  numeral_dash : (z : _) (s : Span) → is_negative (number z s) ≡ false → First brace (word (numeral z) ∷ [])
  numeral_dash (pos n) s e = (refl, refl)
  numeral_dash (negsuc n) s e = absurd cc

  plain_dash : (c : ℕ) (t : Tree) → is_negative t ≡ false → First brace (bracketed (is_atom t) (expr c t))
  plain_dash c (name n) e = (refl, refl)
  plain_dash c (number z s) e = numeral_dash z s e
  plain_dash c (text v s) e = (refl, refl)
  plain_dash c (universe i is s) e = level_dash (nat_eq i 0) i
  plain_dash c (hole n s) e = (refl, refl)
  plain_dash c (the t u s) e = (refl, refl)
  plain_dash c (apply h args s) e = (refl, refl)
  plain_dash c (pi i q n d v s) e = (refl, refl)
  plain_dash c (lambda ps t s) e = (refl, refl)
  plain_dash c (letting q n t d v s) e = (refl, refl)
  plain_dash c (doing ss s) e = (refl, refl)

  atom_dash : (v : Bool) (c : ℕ) (t : Tree) → is_negative t ≡ false
      → First brace (cond v (word (type_at 0) ∷ []) (bracketed (is_atom t) (expr c t)))
  atom_dash true c t e = (refl, refl)
  atom_dash false c t e = plain_dash c t e

  apply_dash : (c : ℕ) (h : Tree) (args : Arguments) (s : Span) → is_negative h ≡ false →
      First brace (expr c (apply h args s))
  apply_dash c h args s e =
      first_append brace (atom (number_first args) h (expr c h)) (arguments c args)
      (atom_dash (number_first args && is_level_0 h) c h e)

  app_dash : (c : ℕ) (t : Tree) → app_negative t ≡ false → First brace (bracketed (is_app t) (expr c t))
  app_dash c (name n) e = (refl, refl)
  app_dash c (number z s) e = numeral_dash z s e
  app_dash c (text v s) e = (refl, refl)
  app_dash c (universe i is s) e = level_dash (nat_eq i 0) i
  app_dash c (hole n s) e = (refl, refl)
  app_dash c (the t u s) e = (refl, refl)
  app_dash c (apply h args s) e = apply_dash c h args s e
  app_dash c (pi i q n d v s) e = (refl, refl)
  app_dash c (lambda ps t s) e = (refl, refl)
  app_dash c (letting q n t d v s) e = (refl, refl)
  app_dash c (doing ss s) e = (refl, refl)

  domain_dash : (v : Bool) (c : ℕ) (m : Mult) (n : List ℕ) (t : Tree) → (v && app_negative t) ≡ false
      → First brace (cond v (bracketed (is_app t) (expr c t)) (in_brackets (binding m n (expr c t))))
  domain_dash true c m n t e = app_dash c t e
  domain_dash false c m n t e = (refl, refl)

  pi_dash : (c : ℕ) (i : Mark) (m : Mult) (n : List ℕ) (t u : Tree) (s : Span) →
      (is_arrow i m n && app_negative t) ≡ false
      → First brace (expr c (pi i m n t u s))
  pi_dash c Written m n t u s e =
      first_append brace (domain c Written m n t (expr c t)) _ (domain_dash (is_arrow Written m n) c m n t e)
  pi_dash c Braced m n t u s e = (refl, refl)
  pi_dash c Inserted m n t u s e = (refl, refl)

  -- no negative number begins the expression
  expr_dash : (c : ℕ) (t : Tree) → begins_negative t ≡ false → First brace (expr c t)
  expr_dash c (name n) e = (refl, refl)
  expr_dash c (number z s) e = numeral_dash z s e
  expr_dash c (text v s) e = (refl, refl)
  expr_dash c (universe i is s) e = level_dash (nat_eq i 0) i
  expr_dash c (hole n s) e = (refl, refl)
  expr_dash c (the t u s) e = (refl, refl)
  expr_dash c (apply h args s) e = apply_dash c h args s e
  expr_dash c (pi i q n d v s) e = pi_dash c i q n d v s e
  expr_dash c (lambda ps t s) e = (refl, refl)
  expr_dash c (letting q n t d v s) e = (refl, refl)
  expr_dash c (doing ss s) e = (refl, refl)

  -- ---- parts with expressions in them

  pub stand_ends : {b o : Bool} {c k : ℕ} {bs : List Block} (u : State) → Stands b k bs u → Ends c k bs o u
  stand_ends {b} u (stands l f) = ends l [] (fine_loose b l f) tt (λ e. refl)

  pub looser : {b : Bool} {c k : ℕ} {bs : List Block} (u : State) → Ends c k bs b u → Ends c k bs true u
  looser u (ends l shut o d n) = ends l shut o d (λ e. absurd cc)

  braces_by : (v : Bool) (c k : ℕ) (bs : List Block) (t : Tree) → begins_negative t ≡ v → Within c k bs → Expression c t
      → Goes (at brace (inline false []) bs k)
      (cond v (blank ∷ []) [] ++ (expr c t ++ (broken_words c (ends_open t) ++ key (codes "}") ∷ [])))
      (Stands true k bs)
  braces_by true c k bs t e w h =
      steps a_blank (goes_then (h k bs (inline false []) ready_inline w) (λ u n. brace_ends (ends_open t) u w n))
  braces_by false c k bs t e w h =
      goes_then (restart brace (expr c t) (expr_dash c t e) (h k bs (inline false []) ready_inline w))
      (λ u n. brace_ends (ends_open t) u w n)

  braced_goes : (c k : ℕ) (bs : List Block) (l : Left) (t : Tree) → Blanked l → Within c k bs → Expression c t
      → Goes (at l (inline false []) bs k) (braced c t (expr c t)) (Stands true k bs)
  braced_goes c k bs l t i w h =
      keyed brace_sign ready_inline (blanked_follows l (sign (codes "{")) i refl)
      (braces_by (begins_negative t) c k bs t refl w h)

  app_open : (t : Tree) → is_app t ≡ true → ends_open t ≡ false
  app_open (name n) e = refl
  app_open (number z s) e = refl
  app_open (text v s) e = refl
  app_open (universe i is s) e = refl
  app_open (hole n s) e = refl
  app_open (the t u s) e = refl
  app_open (apply h args s) e = refl
  app_open (pi i q n d v s) e = absurd cc
  app_open (lambda ps t s) e = absurd cc
  app_open (letting q n t d v s) e = absurd cc
  app_open (doing ss s) e = absurd cc

  shut_stands : {b : Bool} {c k : ℕ} {bs : List Block} (u : State) → b ≡ false → Ends c k bs b u → Stands false k bs u
  shut_stands u e (ends l shut o d n) = rw (n e) (stands l o)

  app_domain : (v : Bool) (c k : ℕ) (bs : List Block) (m : Mode) (t : Tree) → is_app t ≡ v → Ready m →
      Within c k bs → Expression c t
      → Goes (at free m bs k) (bracketed v (expr c t)) (Stands false k bs)
  app_domain true c k bs m t e r w h = goes_wider (h k bs m r w) (λ u n. shut_stands u (app_open t e) n)
  app_domain false c k bs m t e r w h =
      goes_wider (bracketed_goes w r (h (suc k) bs (inline false []) ready_inline (within_more w))) (atom_ends false)

  domain_by : (v : Bool) (c k : ℕ) (bs : List Block) (m : Mode) (q : Mult) (n : List ℕ) (t : Tree) →
      Fit (named n) → Ready m
      → Within c k bs → Expression c t
      → Goes (at free m bs k) (cond v (bracketed (is_app t) (expr c t)) (in_brackets (binding q n (expr c t))))
      (Stands false k bs)
  domain_by true c k bs m q n t f r w h = app_domain (is_app t) c k bs m t refl r w h
  domain_by false c k bs m q n t f r w h =
      goes_wider (bracketed_goes w r
      (binding_goes q n ready_inline f (h (suc k) bs (inline false []) ready_inline (within_more w))))
      (atom_ends false)

  -- "->" and what stands behind it
  pub arrow_goes : {b : Bool} {c k : ℕ} {bs : List Block} (t : Tree) (u : State) → Stands b k bs u →
      Within c k bs → Expression c t
      → Goes u (blank ∷ key (codes "->") ∷ blank ∷ expr c t) (Ends c k bs (ends_open t))
  arrow_goes {b} {c} {k} {bs} t u (stands l f) w h =
      steps a_blank
      (keyed arrow_sign ready_inline
      (blanked_follows (spaced l) (sign (codes "->")) (blanked_of l (fine_loose b l f)) refl)
      (steps a_blank (h k bs (inline false []) ready_inline w)))

  -- a symbol behind a blank or a new line, and what stands behind it
  resumed_then : {b : Left} {s : List ℕ} {k : ℕ} {bs : List Block} {ps : List Printed} {R : State → Type 0} (u : State)
      → Sign s b role.Plain → Resumes k bs u → Goes (at b (inline false []) bs k) ps R → Goes u (key s ∷ ps) R
  resumed_then {s} u i (resumed l m r a) g = keyed i r (blanked_follows l (sign s) a refl) g

  let_head_goes : (c k : ℕ) (bs : List Block) (md : Mode) (m : Mult) (n : List ℕ) (b : Bool) (ts : List Printed)
      (e : Tree) → Fit (named n)
      → Ready md → Within c k bs → Goes (at wordy (inline false []) bs k) ts (Ends c k bs b) → Expression c e
      → Goes (at free md bs k) (let_head c m n b ts (expr c e)) (Ends c k bs (ends_open e))
  let_head_goes c k bs md m n b ts e f r w g h =
      goes_then {R = λ u. Goes u ts (Ends c k bs b)}
      (keyed let_sign r tt (steps a_blank (marked_goes m ready_inline (λ q y. name_then f y (stays g)))))
      (λ u t. goes_then t (λ v x. goes_then (parted_goes b v w x)
      (λ z y. resumed_then z equals_sign y (steps a_blank (h k bs (inline false []) ready_inline w)))))

  -- behind something where anything may follow
  data Clear (k : ℕ) (bs : List Block) : State → Type 0 where
    clear : Clear k bs (at free (inline false []) bs k)

  pub blank_then : {k : ℕ} {bs : List Block} {ps : List Printed} {R : State → Type 0} (u : State) → Stands true k bs u
      → Goes (at free (inline false []) bs k) ps R → Goes u (blank ∷ ps) R
  blank_then u (stands l untyped_free) g = steps a_blank g
  blank_then u (stands l untyped_wordy) g = steps a_blank g

  clear_then : {k : ℕ} {bs : List Block} {ps : List Printed} {R : State → Type 0} (u : State) → Clear k bs u
      → Goes (at free (inline false []) bs k) ps R → Goes u ps R
  clear_then u clear g = g

  -- the block of a `do`, and what closes it
  within_block : (c k : ℕ) (bs : List Block) → Within (c + 2) k (bs ++ block_at (c + 2 + 1) k ∷ [])
  within_block c k bs = record
      { others = bs; newest = block_at (c + 2 + 1) k; are = refl; col = refl; brackets = omega arith }

  block_closes : (c k : ℕ) (bs : List Block) (b : Bool) (u : State) →
      Ends (c + 2) k (bs ++ block_at (c + 2 + 1) k ∷ []) b u
      → Goes u (closed ∷ []) (Ends c k bs true)
  block_closes c k bs b u (ends l shut o d n) =
      steps (shuts refl)
      (stays (ends l (block_at (c + 2 + 1) k ∷ shut) o ((omega arith, omega arith), deep_outside c k shut d)
      (λ e. absurd cc)))

  pub item_begins : {b : Bool} {c k : ℕ} {bs : List Block} {ps : List Printed} {R : State → Type 0} (u : State) →
      Within c k bs
      → Ends c k bs b u → Goes (at free fresh bs k) ps R → Goes u (next ∷ line c ∷ ps) R
  item_begins u w (ends l shut o d n) g =
      steps ends_item (steps (begins_item (each_wider shut (λ x e. omega (arith, e.0)) d) (under_same w)) g)

  statement_formed : (n : ℕ) (t : Statement) (rest : Statements) →
      formed.Statements_formed Fit pass n (statement_and t rest)
      → formed.Statement_formed Fit pass t
  statement_formed n t no_statement f = f.0
  statement_formed n t (statement_and u rest) f = f.0

  second_atom : (c k : ℕ) (bs : List Block) (e : Tree) (u : State) → Stands (is_number e) k bs u → F e →
      Within c k bs → Expression c e
      → Goes u (blank ∷ atom false e (expr c e)) (Ends c k bs false)
  second_atom c k bs e u (stands l x) f w h = steps a_blank (goes_wider (next_atom false c k bs l e x f w h) stand_ends)

  -- ---- expressions

  mutual
    pub expr_goes : (c : ℕ) (t : Tree) → F t → Expression c t
    expr_goes c (name n) f k bs m r w = name_then f.1.1 r (stays (ends wordy [] loose_wordy tt (λ e. refl)))
    expr_goes c (number z s) f k bs m r w =
        steps (plain_word r (a_numeral f) tt) (stays (ends wordy [] loose_wordy tt (λ e. refl)))
    expr_goes c (text v s) f k bs m r w =
        steps (plain_word r (a_text f.1) tt) (stays (ends free [] loose_free tt (λ e. refl)))
    expr_goes c (universe i is s) f k bs m r w = goes_wider (level_goes false (nat_eq i 0) i refl refl f.1 r) stand_ends
    expr_goes c (hole n s) f k bs m r w =
        steps (plain_word r (a_hole f) tt) (stays (ends wordy [] loose_wordy tt (λ e. refl)))
    expr_goes c (the t e s) f k bs m r w =
        keyed the_sign r tt
        (steps a_blank (goes_then
        (atom_goes (is_number e) c k bs (inline false []) t f.0.0 ready_inline w (expr_goes c t f.0.0))
        (λ u x. second_atom c k bs e u x f.1.0 w (expr_goes c e f.1.0))))
    expr_goes c (apply g args s) f k bs m r w =
        goes_then (atom_goes (number_first args) c k bs m g f.0.0 r w (expr_goes c g f.0.0))
        (λ u x. goes_wider (arguments_go c args (formed.is_named g) f.1.1 k bs w u x) stand_ends)
    expr_goes c (pi Written q n a b s) f k bs m r w =
        goes_then (domain_by (is_arrow Written q n) c k bs m q n a f.0.1 r w (expr_goes c a f.1.0.0))
        (λ u x. arrow_goes b u x w (expr_goes c b f.1.1.0))
    expr_goes c (pi Braced q n a b s) f k bs m r w = absurd f
    expr_goes c (pi Inserted q n a b s) f k bs m r w = absurd f
    expr_goes c (lambda ps t s) f k bs m r w =
        keyed backslash_sign r tt
        (goes_then (binders_go c ps f.1.0 k bs w)
        (λ u x. clear_then u x (keyed fat_arrow_sign ready_inline tt (steps a_blank
        (expr_goes c t f.1.1 k bs (inline false []) ready_inline w)))))
    expr_goes c (letting q n t e b s) f k bs m r w =
        goes_then
        (let_head_goes c k bs m q n.name (annotation_open t) (annotation c t) e f.0.1 r w
        (annotation_goes c t f.1.0 k bs w)
        (expr_goes c e f.1.1.0.0))
        (λ u x. goes_then (parted_goes (ends_open e) u w x)
        (λ v y. resumed_then v in_sign y (steps a_blank (expr_goes c b f.1.1.1 k bs (inline false []) ready_inline w))))
    expr_goes c (doing ss s) f k bs m r w =
        steps (opener_word r (a_sign do_sign) tt)
        (steps opens (goes_then (statements_go c ss f k bs w) (λ u x. block_closes c k bs true u x)))

    annotation_goes : (c : ℕ) (t : Annotation) → formed.Annotation_formed Fit pass t →
        (k : ℕ) (bs : List Block) → Within c k bs
        → Goes (at wordy (inline false []) bs k) (annotation c t) (Ends c k bs (annotation_open t))
    annotation_goes c untyped f k bs w = stays (ends wordy [] loose_wordy tt (λ e. refl))
    annotation_goes c (annotated t) f k bs w =
        steps a_blank (keyed colon_sign ready_inline tt
        (steps a_blank (expr_goes c t f.0 k bs (inline false []) ready_inline w)))

    arguments_go : (c : ℕ) (args : Arguments) (i : Bool) → formed.Arguments_formed Fit pass i args →
        (k : ℕ) (bs : List Block)
        → Within c k bs → (u : State) → Stands (number_first args) k bs u →
        Goes u (arguments c args) (Stands false k bs)
    arguments_go c no_argument i f k bs w u x = stays x
    arguments_go c (argument_and (argument Written t) more) i f k bs w u (stands l x) =
        steps a_blank
        (goes_then (next_atom (number_first more) c k bs l t x f.0.0 w (expr_goes c t f.0.0))
        (λ v y. arguments_go c more false f.1 k bs w v y))
    arguments_go c (argument_and (argument Braced t) more) i f k bs w u (stands l x) =
        steps a_blank
        (goes_then (braced_goes c k bs (spaced l) t (blanked_of l x) w (expr_goes c t f.1.0.0))
        (λ v y. arguments_go c more i f.1.1 k bs w v (atom_ends (number_first more) v y)))
    arguments_go c (argument_and (argument Inserted t) more) i f k bs w u x = absurd f

    binders_go : (c : ℕ) (ps : Binders) → formed.Binders_formed Fit pass ps → (k : ℕ) (bs : List Block) → Within c k bs
        → Goes (at free (inline false []) bs k) (binders c ps) (Clear k bs)
    binders_go c no_binder f k bs w = stays clear
    binders_go c (binder_and b more) f k bs w =
        goes_then (binder_goes c b f.0 k bs w) (λ u x. blank_then u x (binders_go c more f.1 k bs w))

    binder_goes : (c : ℕ) (b : Binder) → formed.Binder_formed Fit pass b → (k : ℕ) (bs : List Block) → Within c k bs
        → Goes (at free (inline false []) bs k) (binder c b) (Stands true k bs)
    binder_goes c (plain n) f k bs w = name_then f.1 ready_inline (stays (stands wordy untyped_wordy))
    binder_goes c (typed_binder q n t s) f k bs w =
        bracketed_goes w ready_inline
        (binding_goes q n.name ready_inline f.0.1
        (expr_goes c t f.1.0 (suc k) bs (inline false []) ready_inline (within_more w)))

    statements_go : (c : ℕ) (ss : Statements) → formed.Statements_formed Fit pass 1 ss →
        (k : ℕ) (bs : List Block) → Within c k bs
        → Goes (at wordy opening bs k) (statements (c + 2) ss) (Ends (c + 2) k (bs ++ block_at (c + 2 + 1) k ∷ []) true)
    statements_go c no_statement f k bs w = absurd f
    statements_go c (statement_and s more) f k bs w =
        steps (indents (under_deeper w))
        (goes_then (statement_goes (c + 2) s (statement_formed 1 s more f) k (bs ++ block_at (c + 2 + 1) k ∷ [])
        (within_block c k bs))
        (λ u x. more_go (c + 2) 1 s more f k (bs ++ block_at (c + 2 + 1) k ∷ []) (within_block c k bs) u x))

    more_go : (c n : ℕ) (s : Statement) (more : Statements) → formed.Statements_formed Fit pass n (statement_and s more)
        → (k : ℕ) (bs : List Block) → Within c k bs →
        (u : State) → Ends c k bs true u → Goes u (more_statements c more) (Ends c k bs true)
    more_go c n s no_statement f k bs w u x = stays x
    more_go c n s (statement_and t rest) f k bs w u x =
        item_begins u w x
        (goes_then (statement_goes c t (statement_formed (suc n) t rest f.1.1.1) k bs w)
        (λ v y. more_go c (suc n) t rest f.1.1.1 k bs w v y))

    statement_goes : (c : ℕ) (s : Statement) → formed.Statement_formed Fit pass s →
        (k : ℕ) (bs : List Block) → Within c k bs
        → Goes (at free fresh bs k) (statement c s) (Ends c k bs true)
    statement_goes c (bind n e) f k bs w =
        name_then f.0.1 ready_fresh
        (steps a_blank (keyed left_arrow_sign ready_inline tt
        (steps a_blank (goes_wider (expr_goes c e f.1.0 k bs (inline false []) ready_inline w) looser))))
    statement_goes c (local q n t e s) f k bs w =
        goes_wider
        (let_head_goes c k bs fresh q n.name (annotation_open t) (annotation c t) e f.0.1 ready_fresh w
        (annotation_goes c t f.1.0 k bs w)
        (expr_goes c e f.1.1.0))
        looser
    statement_goes c (run e s) f k bs w = goes_wider (expr_goes c e f k bs fresh ready_fresh w) looser

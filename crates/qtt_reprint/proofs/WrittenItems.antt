-- The printed words of a module that the grammar allows lead from its start to its end.
use Rattle.std.proofs.Common.{ℕ, suc, Bool, true, false, List, [], ◌∷◌, ◌++◌, refl, arith, codes}
use Rattle.qtt_usage.specs.declared.mult.Mult.TheVariants as mult
use Rattle.qtt_layout.specs.declared.block.Block.{Block}
use Rattle.qtt_syntax.specs.declared.module.Import.{Import}
use Rattle.qtt_syntax.specs.declared.expr.Mark.TheVariants.{Written, Braced, Inserted}
use Rattle.qtt_syntax.specs.Tree.{Tree, Shape, Shapes, Param, Con, Item, Module, shapes}
use Rattle.qtt_syntax.specs.Tree.Tree.{name, number, text, universe, hole, the, apply, pi, lambda, letting, doing}
use Rattle.qtt_syntax.specs.Tree.Shape.{variable, wildcard, constructor, dot}
use Rattle.qtt_syntax.specs.Tree.Shapes.{no_shape, shape_and}
use Rattle.qtt_syntax.specs.Tree.Param.{param}
use Rattle.qtt_syntax.specs.Tree.Con.{con}
use Rattle.qtt_syntax.specs.Tree.Item.{family, signature, clause}
use Rattle.qtt_syntax.specs.Tree.Module.{module_text}
use Rattle.qtt_syntax.specs.Words.{Printed}
use Rattle.qtt_syntax.specs.Words.Word.{sign, named}
use Rattle.qtt_syntax.specs.Words.Printed.{word, blank, line, opened, next, closed}
use Rattle.qtt_syntax.specs.Printing.{key, binding, broken as broken_words, ends_open, expr, pattern, patterns, params, con_words, more_cons, cons, partially, item, imports, items}
use Rattle.qtt_grammar.specs.declared.class.Pass.{Pass}
use Rattle.qtt_grammar.specs.Grammar as grammar
use Rattle.qtt_grammar.specs.Grammar.Entry.{listed}
use Rattle.qtt_reprint.proofs.Formed as formed
use Rattle.qtt_reprint.proofs.Gives.{Each}
use Rattle.qtt_reprint.proofs.Steps.{Fit, Left, spaced, Ready, State, block_at, Goes, stays, steps, goes_then, goes_wider}
use Rattle.qtt_reprint.proofs.Steps.Left.{free, wordy, brace}
use Rattle.qtt_reprint.proofs.Steps.Untyped.{untyped_wordy}
use Rattle.qtt_reprint.proofs.Steps.Sign.{module_sign, import_sign, data_sign, where_sign, partial_sign, dot_sign, colon_sign, equals_sign, brace_sign}
use Rattle.qtt_reprint.proofs.Steps.IsWord.{a_sign}
use Rattle.qtt_reprint.proofs.Steps.Mode.{inline, fresh, opening, broken}
use Rattle.qtt_reprint.proofs.Steps.Ready.{ready_inline, ready_fresh}
use Rattle.qtt_reprint.proofs.Steps.State.{at}
use Rattle.qtt_reprint.proofs.Steps.Step.{opener_word, a_blank, breaks, ends_item, begins_item, opens, indents, empties, shuts}
use Rattle.qtt_reprint.proofs.Written.{Deep, Within, Ends, Stands, Resumes, Expression, within_more, under_same, each_wider, blanked_follows, restart, keyed, opened_by, name_then, bracketed_goes, bracket_ends, parted_goes, brace_ends, binding_goes, arrow_goes, stand_ends, looser, blank_then, item_begins, expr_goes}
use Rattle.qtt_reprint.proofs.Written.Ends.{ends}
use Rattle.qtt_reprint.proofs.Written.Stands.{stands}
use Rattle.qtt_reprint.proofs.Written.Resumes.{resumed}

-- behind an item: blocks may have closed there, or an empty one
pub data Item_ends (k : ℕ) (bs : List Block) : State → Type 0 where
  item_ends : (l : Left) (e : Bool) (shut : List Block) → Each (Deep 0 k) shut →
      Item_ends k bs (at l (inline e shut) bs k)

-- behind the last line feed
pub data Finished : State → Type 0 where
  finished : (l : Left) (e : Bool) (shut : List Block) → Finished (at (spaced l) (broken 0 e shut) [] 0)

-- what stands behind the mark that opens the module's block
abbrev pub behind_open : Module → List Printed
behind_open (module_text s n ns is ts) =
    key (codes "module") ∷ blank ∷ word (named n) ∷ (imports is ++ (items ts ++ closed ∷ line 0 ∷ []))

module _ (wild : Fit (named (codes "_"))) (pass : Pass) where
  abbrev F : Tree → Type 0
  F = formed.Formed Fit pass

  -- ---- types with implicit arguments

  implicit_domain : (c k : ℕ) (bs : List Block) (m : _) (n : List ℕ) (t : Tree) → Fit (named n) → Ready m →
      Within c k bs → Expression c t
      → Goes (at free m bs k) (key (codes "{") ∷
      (binding mult.Zero n (expr c t) ++ (broken_words c (ends_open t) ++ key (codes "}") ∷ [])))
      (Stands true k bs)
  implicit_domain c k bs m n t f r w h =
      keyed brace_sign r tt
      (goes_then (restart brace (binding mult.Zero n (expr c t)) (refl, refl)
      (binding_goes mult.Zero n ready_inline f (h k bs (inline false []) ready_inline w)))
      (λ u x. brace_ends (ends_open t) u w x))

  pub typing_goes : (c : ℕ) (t : Tree) → formed.Typing_formed Fit pass t → Expression c t
  typing_goes c (pi Braced q n a b s) f k bs m r w =
      rw f.0
      (goes_then (implicit_domain c k bs m n a f.1.0.1 r w (expr_goes pass c a f.1.1.0.0))
      (λ u x. arrow_goes pass b u x w (typing_goes c b f.1.1.1)))
  typing_goes c (pi Written q n a b s) f k bs m r w = expr_goes pass c (pi Written q n a b s) f.0 k bs m r w
  typing_goes c (pi Inserted q n a b s) f k bs m r w = absurd f.0
  typing_goes c (name n) f k bs m r w = expr_goes pass c (name n) f.0 k bs m r w
  typing_goes c (number z s) f k bs m r w = expr_goes pass c (number z s) f.0 k bs m r w
  typing_goes c (text v s) f k bs m r w = expr_goes pass c (text v s) f.0 k bs m r w
  typing_goes c (universe i is s) f k bs m r w = expr_goes pass c (universe i is s) f.0 k bs m r w
  typing_goes c (hole n s) f k bs m r w = expr_goes pass c (hole n s) f.0 k bs m r w
  typing_goes c (the t e s) f k bs m r w = expr_goes pass c (the t e s) f.0 k bs m r w
  typing_goes c (apply g args s) f k bs m r w = expr_goes pass c (apply g args s) f.0 k bs m r w
  typing_goes c (lambda ps t s) f k bs m r w = expr_goes pass c (lambda ps t s) f.0 k bs m r w
  typing_goes c (letting q n t e b s) f k bs m r w = expr_goes pass c (letting q n t e b s) f.0 k bs m r w
  typing_goes c (doing ss s) f k bs m r w = expr_goes pass c (doing ss s) f.0 k bs m r w

  -- ---- patterns

  mutual
    pattern_goes : (p : Shape) → formed.Shape_formed Fit pass p → (k : ℕ) (bs : List Block) → Within 0 k bs
        → Goes (at free (inline false []) bs k) (pattern p) (Stands true k bs)
    pattern_goes (variable i n s) f k bs w = name_then f.1.1 ready_inline (stays (stands wordy untyped_wordy))
    pattern_goes (wildcard i s) f k bs w = name_then wild ready_inline (stays (stands wordy untyped_wordy))
    pattern_goes (constructor i n no_shape s) f k bs w =
        name_then f.1.1.0.1 ready_inline (stays (stands wordy untyped_wordy))
    pattern_goes (constructor i n (shape_and p more) s) f k bs w =
        bracketed_goes {b = false} w ready_inline
        (name_then f.1.1.0.1 ready_inline (goes_wider
        (patterns_go 0 (shape_and p more) f.1.1.1 (suc k) bs (within_more w) (at wordy (inline false []) bs (suc k))
        (stands wordy untyped_wordy))
        (stand_ends pass)))
    pattern_goes (dot i t s) f k bs w =
        opened_by dot_sign ready_inline tt
        (goes_then (expr_goes pass 0 t f.1.0 (suc k) bs (inline false []) ready_inline (within_more w))
        (λ u x. bracket_ends u w x))

    patterns_go : (n : ℕ) (ps : Shapes) → formed.Shapes_formed Fit pass n ps →
        (k : ℕ) (bs : List Block) → Within 0 k bs → (u : State)
        → Stands true k bs u → Goes u (patterns ps) (Stands true k bs)
    patterns_go n no_shape f k bs w u x = stays x
    patterns_go n (shape_and p more) f k bs w u x =
        blank_then pass u x (goes_then (pattern_goes p f.1.0 k bs w) (λ v y. patterns_go (suc n) more f.1.1 k bs w v y))

  -- ---- items

  params_go : (i n : ℕ) (ps : List Param) → formed.Params_formed Fit pass i n ps →
      (k : ℕ) (bs : List Block) → Within 0 k bs → (u : State)
      → Stands true k bs u → Goes u (params ps) (Stands true k bs)
  params_go i n [] f k bs w u x = stays x
  params_go i n (param q m t s ∷ more) f k bs w u x =
      blank_then pass u x
      (goes_then (bracketed_goes w ready_inline
      (binding_goes q m ready_inline f.1.0.1.0.1
      (expr_goes pass 0 t f.1.0.1.1.0.0 (suc k) bs (inline false []) ready_inline (within_more w))))
      (λ v y. params_go i (suc n) more f.1.1 k bs w v y))

  con_goes : (l : ℕ) (c : Con) → formed.Con_formed Fit pass l c → (k : ℕ) (bs : List Block) → Within 2 k bs
      → Goes (at free fresh bs k) (con_words c) (Ends 2 k bs true)
  con_goes l (con n t s) f k bs w =
      name_then f.0.1 ready_fresh (steps a_blank (keyed colon_sign ready_inline tt (steps a_blank
      (goes_wider (typing_goes 2 t f.1.0 k bs (inline false []) ready_inline w) (looser pass)))))

  more_cons_go : (l n : ℕ) (cs : List Con) → formed.More_cons_formed Fit pass l n cs →
      (k : ℕ) (bs : List Block) → Within 2 k bs
      → (u : State) → Ends 2 k bs true u → Goes u (more_cons cs) (Ends 2 k bs true)
  more_cons_go l n [] f k bs w u x = stays x
  more_cons_go l n (c ∷ more) f k bs w u x =
      item_begins pass u w x (goes_then (con_goes l c f.1.0 k bs w)
      (λ v y. more_cons_go l (suc n) more f.1.1 k bs w v y))

  within_cons : (k : ℕ) (bs : List Block) → Within 2 k (bs ++ block_at 3 k ∷ [])
  within_cons k bs = record { others = bs; newest = block_at 3 k; are = refl; col = refl; brackets = omega arith }

  cons_close : (k : ℕ) (bs : List Block) (u : State) → Ends 2 k (bs ++ block_at 3 k ∷ []) true u →
      Goes u (closed ∷ []) (Item_ends k bs)
  cons_close k bs u (ends l shut o d n) =
      steps (shuts refl)
      (stays (item_ends l false (block_at 3 k ∷ shut)
      ((omega arith, omega arith), each_wider shut (λ x e. (omega (arith, e.0), e.1)) d)))

  cons_go : (l : ℕ) (cs : List Con) → formed.Cons_formed Fit pass l cs → (k : ℕ) (bs : List Block) → Within 0 k bs
      → Goes (at wordy opening bs k) (cons cs ++ closed ∷ []) (Item_ends k bs)
  cons_go l [] f k bs w = steps empties (stays (item_ends wordy true [] tt))
  cons_go l (c ∷ more) f k bs w =
      let all = bs ++ block_at 3 k ∷ [] in
      steps (indents (record { others = w.others; newest = w.newest; are = w.are; is = omega (arith, w.col) }))
      (goes_then {R = Ends 2 k all true}
      (goes_then (con_goes l c f.0 k all (within_cons k bs))
      (λ v y. more_cons_go l 1 more f.1 k all (within_cons k bs) v y))
      (λ u x. cons_close k bs u x))

  where_goes : (l : ℕ) (cs : List Con) → formed.Cons_formed Fit pass l cs →
      (k : ℕ) (bs : List Block) → Within 0 k bs → (u : State)
      → Resumes k bs u → Goes u (key (codes "where") ∷ opened ∷ (cons cs ++ closed ∷ [])) (Item_ends k bs)
  where_goes l cs f k bs w u (resumed i m r a) =
      steps (opener_word r (a_sign where_sign) (blanked_follows i (sign (codes "where")) a refl))
      (steps opens (cons_go l cs f k bs w))

  item_of : {b : Bool} {k : ℕ} {bs : List Block} (u : State) → Ends 0 k bs b u → Item_ends k bs u
  item_of u (ends l shut o d n) = item_ends l false shut d

  partial_goes : {k : ℕ} {bs : List Block} {ps : List Printed} {R : State → Type 0} (p : Bool)
      → ((m : _) → Ready m → Goes (at free m bs k) ps R) → Goes (at free fresh bs k) (partially p ++ ps) R
  partial_goes true g = keyed partial_sign ready_fresh tt (steps a_blank (g (inline false []) ready_inline))
  partial_goes false g = g fresh ready_fresh

  item_goes : (l i : ℕ) (place : grammar.Place) (t : Item) → formed.Item_formed Fit pass l i place t →
      (k : ℕ) (bs : List Block)
      → Within 0 k bs → Goes (at free fresh bs k) (item t) (Item_ends k bs)
  item_goes l i place (family n ns ps t cs s) f k bs w =
      keyed data_sign ready_fresh tt
      (steps a_blank (name_then f.0.1 ready_inline (goes_then
      (params_go i 0 ps f.1.0 k bs w (at wordy (inline false []) bs k) (stands wordy untyped_wordy))
      (λ u x. blank_then pass u x (keyed colon_sign ready_inline tt (steps a_blank (goes_then
      (expr_goes pass 0 t f.1.1.0.0.0 k bs (inline false []) ready_inline w)
      (λ v y. goes_then (parted_goes (ends_open t) v w y) (λ z g. where_goes l cs f.1.1.1 k bs w z g)))))))))
  item_goes l i place (signature p q n ns t s) f k bs w =
      partial_goes p
      (λ m r. binding_goes q n r f.1.0.1
      (goes_wider (typing_goes 0 t f.1.1.0 k bs (inline false []) ready_inline w) item_of))
  item_goes l i place (clause n ps side s) f k bs w =
      name_then f.0.1 ready_fresh
      (goes_then (patterns_go 0 (shapes ps) f.1.1.0.0 k bs w (at wordy (inline false []) bs k)
      (stands wordy untyped_wordy))
      (λ u x. blank_then pass u x (keyed equals_sign ready_inline tt (steps a_blank
      (goes_wider (expr_goes pass 0 side f.1.1.1.0 k bs (inline false []) ready_inline w) item_of)))))

  -- ---- modules

  next_line : {k : ℕ} {bs : List Block} {ps : List Printed} {R : State → Type 0} (u : State) → Within 0 k bs →
      Item_ends k bs u
      → Goes (at free fresh bs k) ps R → Goes u (next ∷ line 0 ∷ ps) R
  next_line u w (item_ends l e shut d) g =
      steps ends_item (steps (begins_item (each_wider shut (λ x e. omega (arith, e.0)) d) (under_same w)) g)

  imports_go : (is : List Import) → formed.Imports_formed Fit pass is →
      (k : ℕ) (bs : List Block) → Within 0 k bs → (u : State)
      → Item_ends k bs u → Goes u (imports is) (Item_ends k bs)
  imports_go [] f k bs w u x = stays x
  imports_go (j ∷ more) f k bs w u x =
      next_line u w x
      (keyed import_sign ready_fresh tt (steps a_blank (name_then f.0.1 ready_inline
      (imports_go more f.1 k bs w (at wordy (inline false []) bs k) (item_ends wordy false [] tt)))))

  items_go : (l i : ℕ) (place : grammar.Place) (ts : List Item) → formed.Items_formed Fit pass l i place ts →
      (k : ℕ) (bs : List Block)
      → Within 0 k bs → (u : State) → Item_ends k bs u → Goes u (items ts) (Item_ends k bs)
  items_go l i place [] f k bs w u x = stays x
  items_go l i place (t ∷ more) f k bs w u x =
      next_line u w x
      (goes_then (item_goes l i place t f.1.0 k bs w)
      (λ v y. items_go l i (grammar.next_place place (listed t)) more f.1.1 k bs w v y))

  within_module : Within 0 0 (block_at 1 0 ∷ [])
  within_module = record { others = []; newest = block_at 1 0; are = refl; col = refl; brackets = omega arith }

  module_ends : (u : State) → Item_ends 0 (block_at 1 0 ∷ []) u → Goes u (closed ∷ line 0 ∷ []) Finished
  module_ends u (item_ends l e shut d) =
      steps (shuts {others = []} refl) (steps (breaks 0) (stays (finished l e (block_at 1 0 ∷ shut))))

  pub module_goes : (l i : ℕ) (t : Module) → formed.Module_formed Fit pass l i t
      → Goes (at free fresh (block_at 1 0 ∷ []) 0) (behind_open t) Finished
  module_goes l i (module_text s n ns is ts) f =
      keyed module_sign ready_fresh tt (steps a_blank (name_then f.0.1 ready_inline
      (goes_then (imports_go is f.1.0 0 (block_at 1 0 ∷ []) within_module
      (at wordy (inline false []) (block_at 1 0 ∷ []) 0) (item_ends wordy false [] tt))
      (λ u x. goes_then (items_go l i grammar.start ts f.1.1 0 (block_at 1 0 ∷ []) within_module u x)
      (λ v y. module_ends v y)))))

-- What reading and loading answer in code.
use Rattle.std.specs.Prelude.{◌≡◌, ℕ, List, map, Option, IfSome, Result, Ok, Err, Vec}
use Rattle.std.specs.Global.{Global}
use Rattle.qtt_base.specs.declared.errors.Fault.{Fault}
use Rattle.qtt_lexer.specs.Lexed.{seen}
use Rattle.qtt_syntax.specs.declared.module.ModuleText.{ModuleText}
use Rattle.qtt_syntax.specs.Tree.{Module}
use Rattle.qtt_syntax.specs.View.{module_of}
use Rattle.qtt_graph.specs.Graph.{Name}
use Rattle.qtt_rules.specs.Kinds.{kind_of}
use Rattle.qtt_diag.specs.Kept.{detail, refusal as kept_of}
use Rattle.qtt_load.specs.Reading.{Why, Reading, Texts, of_fault, read_text, read_in}
use Rattle.qtt_load.specs.Loading.{Stop, not_read, loaded}
use Rattle.qtt_load.specs.declared.errors.LoadError.{LoadError}
use Rattle.qtt_load.specs.declared.errors.LoadError.TheVariants as load
use Rattle.qtt_load.specs.declared.errors.TextError.{TextError}
use Rattle.qtt_load.specs.declared.errors.TextError.TheVariants as error
use Rattle.qtt_load.specs.declared.loaded.Loaded.{Loaded}

-- ---- a text

-- the answer is exactly this value, seen by `view`, or why there is none, unless memory ran out
abbrev pub Gives : {A B : Type 0} → (A → B) → Result A TextError → Reading B → Type 0
Gives view (Ok a) answer = answer ≡ Ok (view a)
Gives view (Err error.Memory) answer = Unit {0}
Gives view (Err (error.Refused s d)) answer = answer ≡ Err (Why.refused s (detail d))

-- the error is want of memory, or says this
abbrev pub Says : TextError → Why → Type 0
Says error.Memory w = Unit {0}
Says (error.Refused s d) w = Why.refused s (detail d) ≡ w

-- why a text of this fault is refused
abbrev pub why : Fault → Why
why f = of_fault (seen f)

abbrev pub nothing : Unit {0} → Unit {0}
nothing u = u

abbrev pub items_seen : {A : Type 0} → Vec A Global → List A
items_seen v = v.items

-- ---- a module

-- of some text of this name, or of none, this is read; where the vault tells its texts, it is the vault's
abbrev pub ReadsAs : Option Texts → Name → Reading Module → Type 0
ReadsAs told a answer = (text : Option (List ℕ)) × IfSome told (λ f. f a ≡ text) × (read_text a text ≡ answer)

-- and it stops loading, for this
abbrev pub Stops : Option Texts → Name → Stop → Type 0
Stops told a s = (w : Why) × ReadsAs told a (Err w) × (not_read a w ≡ s)

-- the answer is this module, or why it is not read; of want of memory and of a fault of the vault nothing is said
abbrev pub IsRead : Option Texts → Name → Result ModuleText LoadError → Type 0
IsRead told a (Ok m) = ReadsAs told a (Ok (module_of m))
IsRead told a (Err (load.Absent n)) = Stops told a (Stop.absent n)
IsRead told a (Err (load.Refused r)) = Stops told a (Stop.refused r.rule (kept_of r)) × (r.premise ≡ kind_of r.detail)
IsRead told a (Err load.VaultFault) = Unit {0}
IsRead told a (Err load.Memory) = Unit {0}

-- ---- a build

abbrev pub trees : Loaded → List Module
trees l = map module_of l.texts.items

-- of some texts the build of the named module is this; where the vault tells its texts, it is of these
abbrev pub Loads : Option Texts → Name → Result (List Module) Stop → Type 0
Loads told root answer = (texts : Texts) × IfSome told (λ f. f ≡ texts) × (loaded (read_in texts) root ≡ answer)

-- the answer is this build, or why it is not loaded; of want of memory and of a fault of the vault nothing is said
abbrev pub IsLoading : Option Texts → Name → Result Loaded LoadError → Type 0
IsLoading told root (Ok l) = Loads told root (Ok (trees l))
IsLoading told root (Err (load.Absent a)) = Loads told root (Err (Stop.absent a))
IsLoading told root (Err (load.Refused r)) =
    Loads told root (Err (Stop.refused r.rule (kept_of r))) × (r.premise ≡ kind_of r.detail)
IsLoading told root (Err load.VaultFault) = Unit {0}
IsLoading told root (Err load.Memory) = Unit {0}

-- it is said that a module is not there
abbrev pub IsAbsent : {A : Type 0} → Result A LoadError → Type 0
IsAbsent (Ok a) = ⊥
IsAbsent (Err (load.Absent n)) = Unit {0}
IsAbsent (Err (load.Refused r)) = ⊥
IsAbsent (Err load.VaultFault) = ⊥
IsAbsent (Err load.Memory) = ⊥

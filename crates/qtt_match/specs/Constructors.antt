-- Constructors by the names of a text.
use Rattle.std.specs.Prelude.{ℕ, Bool, false, ◌&&◌, eqb, List, Option, Some, None}
use Rattle.qtt_base.specs.declared.place.GlobalId.{GlobalId}
use Rattle.qtt_syntax.specs.declared.expr.Named.{Named}
use Rattle.qtt_syntax.specs.declared.expr.Target.{Target}
use Rattle.qtt_syntax.specs.declared.expr.Target.TheVariants.{Unknown, Local, Global}
use Rattle.qtt_term.specs.declared.term.ConId.{ConId}
use Rattle.qtt_term.specs.Term.{same_id}
use Rattle.qtt_term.specs.Items.{FamilyEntry, constructor_of}

-- the constructor that a name stands for
abbrev pub named_constructor : List FamilyEntry → Target → Option ConId
named_constructor Fs Unknown = None
named_constructor Fs (Local i) = None
named_constructor Fs (Global g) = constructor_of Fs g

abbrev pub is_constructor : GlobalId → ℕ → Option ConId → Bool
is_constructor f c None = false
is_constructor f c (Some d) = same_id f d.family && eqb c d.place

-- the name stands for constructor c of family f
abbrev pub names_constructor : List FamilyEntry → Named → GlobalId → ℕ → Bool
names_constructor Fs h f c = is_constructor f c (named_constructor Fs h.target)

-- The laws that the functions of this crate ensure.
use Rattle.qtt_confluence.specs.Laws.{ContractionIsConfluent, TypesAreInjective, RigidHeadsDiffer, ConvertibleHeadsAgree, HeadIsExact, ContractionIsStandard, HeadIsReached, CountAloneLimits, ComparesByRecursion, EqualIsConvertible, DifferentIsApart, DefinitionsTell}
use Rattle.qtt_confluence.proofs.Confluence.{confluence}
use Rattle.qtt_confluence.proofs.Injective.{injective}
use Rattle.qtt_confluence.proofs.Compare.{agree, apart, convertible}
use Rattle.qtt_confluence.proofs.HeadCount.{head-is_exact}
use Rattle.qtt_confluence.proofs.Standard.{reduces-standard, standard-reduces}
use Rattle.qtt_confluence.proofs.HeadReached.{head-reached}
use Rattle.qtt_confluence.proofs.Count.{count-alone_limits}
use Rattle.qtt_confluence.proofs.Recursion.{compares-by_recursion}
use Rattle.qtt_confluence.proofs.Examples.{definitions-tell}

pub contraction_is_confluent : ContractionIsConfluent
contraction_is_confluent E bodies t s h = confluence E bodies t s h

pub types_are_injective : TypesAreInjective
types_are_injective E bodies = injective E bodies

pub rigid_heads_differ : RigidHeadsDiffer
rigid_heads_differ E bodies t s h k n c = n (agree E bodies t s h k c).0

pub convertible_heads_agree : ConvertibleHeadsAgree
convertible_heads_agree E bodies t s h k c = agree E bodies t s h k c

pub head_is_exact : HeadIsExact
head_is_exact = head-is_exact

pub contraction_is_standard : ContractionIsStandard
contraction_is_standard E bodies t s = (reduces-standard E bodies, standard-reduces)

pub head_is_reached : HeadIsReached
head_is_reached = head-reached

pub count_alone_limits : CountAloneLimits
count_alone_limits = count-alone_limits

pub compares_by_recursion : ComparesByRecursion
compares_by_recursion = compares-by_recursion

pub equal_is_convertible : EqualIsConvertible
equal_is_convertible E n t s e = convertible E n t s e

pub different_is_apart : DifferentIsApart
different_is_apart E bodies n t s path d c = apart E bodies n t s path d c

pub definitions_tell : DefinitionsTell
definitions_tell = definitions-tell

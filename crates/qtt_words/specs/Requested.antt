-- What a request asks for.
use Rattle.qtt_words.specs.Asked.{Asked, Work}
use Rattle.qtt_words.specs.declared.request.Command.{Command}
use Rattle.qtt_words.specs.declared.request.Command.TheVariants as command
use Rattle.qtt_words.specs.declared.request.Request.{Request}

abbrev pub work : Command → Work
work (command.Check name) = Work.check name
work (command.Core name) = Work.core name
work (command.Code name) = Work.code name
work (command.Run name) = Work.run name
work (command.Generate generation) = Work.gen generation.number

abbrev pub requested : Request → Asked
requested r = record { work = work r.command; steps = r.steps; budget = r.budget; jobs = r.jobs }

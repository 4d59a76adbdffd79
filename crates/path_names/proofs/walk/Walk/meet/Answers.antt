use Rattle.std.proofs.Common.{ap, refl}
use Rattle.cm_meaning.specs.PatchSites.{field_words}
use Rattle.cm_meaning.specs.Sites.{Advances, Assigns, Calls, DeclaresNode, Defines, Handles, Joins, Jumps, KeepsApart, NamesType, Reads, TakesArgument, Writes, path_of_word}
use Rattle.scope_walk.specs.Meant.{part_as}
use Rattle.path_names.proofs.StandLemmas.{meets-none, meets-path}
use Rattle.path_names.proofs.walk.Walk.meet.Goals as goal

pub returns-in-Reads-clause-takes : goal.returns-in-Reads-clause-takes
returns-in-Reads-clause-takes c = meets-path c.args.self.now c.look.new.self c.args.part (Reads c.in-Reads.path.now) c.in-Reads.path.now c.look.result (ap part_as c.in-Reads.is) refl c.look.ensures.looks

pub returns-in-Calls-clause-takes : goal.returns-in-Calls-clause-takes
returns-in-Calls-clause-takes c = meets-path c.args.self.now c.look-in-Calls.new.self c.args.part (Calls c.in-Calls.path.now c.in-Calls.field-1.now) c.in-Calls.path.now c.look-in-Calls.result (ap part_as c.in-Calls.is) refl c.look-in-Calls.ensures.looks

pub returns-in-NamesType-clause-takes : goal.returns-in-NamesType-clause-takes
returns-in-NamesType-clause-takes c = meets-path c.args.self.now c.look-in-NamesType.new.self c.args.part (NamesType c.in-NamesType.path.now) c.in-NamesType.path.now c.look-in-NamesType.result (ap part_as c.in-NamesType.is) refl c.look-in-NamesType.ensures.looks

pub returns-in-Writes-clause-takes : goal.returns-in-Writes-clause-takes
returns-in-Writes-clause-takes c = meets-path c.args.self.now c.look_word.new.self c.args.part (Writes c.in-Writes.word.now) (path_of_word c.in-Writes.word.now) c.look_word.result (ap part_as c.in-Writes.is) refl c.look_word.ensures.looks

pub returns-in-Assigns-clause-takes : goal.returns-in-Assigns-clause-takes
returns-in-Assigns-clause-takes c = meets-path c.args.self.now c.look_word-in-Assigns.new.self c.args.part (Assigns c.in-Assigns.word.now) (path_of_word c.in-Assigns.word.now) c.look_word-in-Assigns.result (ap part_as c.in-Assigns.is) refl c.look_word-in-Assigns.ensures.looks

pub returns-in-Handles-clause-takes : goal.returns-in-Handles-clause-takes
returns-in-Handles-clause-takes c = meets-path c.args.self.now c.look_word-in-Handles.new.self c.args.part (Handles c.in-Handles.word.now) (path_of_word c.in-Handles.word.now) c.look_word-in-Handles.result (ap part_as c.in-Handles.is) refl c.look_word-in-Handles.ensures.looks

pub returns-in-DeclaresNode-clause-takes : goal.returns-in-DeclaresNode-clause-takes
returns-in-DeclaresNode-clause-takes c = meets-path c.args.self.now c.look-in-DeclaresNode.new.self c.args.part (DeclaresNode c.in-DeclaresNode.node.now) c.in-DeclaresNode.node.now.path c.look-in-DeclaresNode.result (ap part_as c.in-DeclaresNode.is) refl c.look-in-DeclaresNode.ensures.looks

pub returns-in-Joins-clause-takes : goal.returns-in-Joins-clause-takes
returns-in-Joins-clause-takes c = meets-path c.args.self.now c.look_word-in-Joins.new.self c.args.part (Joins c.in-Joins.point.now) (path_of_word c.in-Joins.point.now.name) c.look_word-in-Joins.result (ap part_as c.in-Joins.is) refl c.look_word-in-Joins.ensures.looks

pub returns-in-TakesArgument-clause-takes : goal.returns-in-TakesArgument-clause-takes
returns-in-TakesArgument-clause-takes c = meets-none c.args.self.now c.args.part (TakesArgument c.in-TakesArgument.field-0.now) (ap part_as c.in-TakesArgument.is) refl

pub returns-in-HasFields-clause-takes : goal.returns-in-HasFields-clause-takes
returns-in-HasFields-clause-takes c = meets-none c.args.self.now c.args.part (KeepsApart (field_words c.in-HasFields.field-0.now)) (ap part_as c.in-HasFields.is) refl

pub returns-in-Defines-clause-takes : goal.returns-in-Defines-clause-takes
returns-in-Defines-clause-takes c = meets-none c.args.self.now c.args.part (Defines c.in-Defines.field-0.now) (ap part_as c.in-Defines.is) refl

pub returns-in-Jumps-clause-takes : goal.returns-in-Jumps-clause-takes
returns-in-Jumps-clause-takes c = meets-none c.args.self.now c.args.part (Jumps c.in-Jumps.field-0) (ap part_as c.in-Jumps.is) refl

pub returns-in-Advances-clause-takes : goal.returns-in-Advances-clause-takes
returns-in-Advances-clause-takes c = meets-none c.args.self.now c.args.part (Advances c.in-Advances.field-0) (ap part_as c.in-Advances.is) refl

use Rattle.wasm_valid.specs.declared.broken.Part.TheVariants as part
use Rattle.wasm_valid.proofs.RefusalLemmas.{for_part}
use Rattle.wasm_valid.proofs.refusal.offset_of_part.Goals as goal

pub returns-in-Types : goal.returns-in-Types
returns-in-Types c = for_part c.args.bytes.now c.section_offset.result c.args.part part.Types c.in-Types.is c.section_offset.ensures

pub returns-in-Imports : goal.returns-in-Imports
returns-in-Imports c = for_part c.args.bytes.now c.section_offset-in-Imports.result c.args.part part.Imports c.in-Imports.is c.section_offset-in-Imports.ensures

pub returns-in-Functions : goal.returns-in-Functions
returns-in-Functions c = for_part c.args.bytes.now c.section_offset-in-Functions.result c.args.part part.Functions c.in-Functions.is c.section_offset-in-Functions.ensures

pub returns-in-Memories : goal.returns-in-Memories
returns-in-Memories c = for_part c.args.bytes.now c.section_offset-in-Memories.result c.args.part part.Memories c.in-Memories.is c.section_offset-in-Memories.ensures

pub returns-in-Globals : goal.returns-in-Globals
returns-in-Globals c = for_part c.args.bytes.now c.section_offset-in-Globals.result c.args.part part.Globals c.in-Globals.is c.section_offset-in-Globals.ensures

pub returns-in-Exports : goal.returns-in-Exports
returns-in-Exports c = for_part c.args.bytes.now c.section_offset-in-Exports.result c.args.part part.Exports c.in-Exports.is c.section_offset-in-Exports.ensures

pub returns-in-Codes : goal.returns-in-Codes
returns-in-Codes c = for_part c.args.bytes.now c.section_offset-in-Codes.result c.args.part part.Codes c.in-Codes.is c.section_offset-in-Codes.ensures

pub returns-in-Segments : goal.returns-in-Segments
returns-in-Segments c = for_part c.args.bytes.now c.section_offset-in-Segments.result c.args.part part.Segments c.in-Segments.is c.section_offset-in-Segments.ensures

pub returns-in-Cmajor : goal.returns-in-Cmajor
returns-in-Cmajor c = for_part c.args.bytes.now c.cmajor_offset.result c.args.part part.Cmajor c.in-Cmajor.is c.cmajor_offset.ensures

pub returns-in-SecondCmajor : goal.returns-in-SecondCmajor
returns-in-SecondCmajor c = for_part c.args.bytes.now c.cmajor_offset-in-SecondCmajor.result c.args.part part.SecondCmajor c.in-SecondCmajor.is c.cmajor_offset-in-SecondCmajor.ensures

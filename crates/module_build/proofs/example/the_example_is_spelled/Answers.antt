use Rattle.module_build.proofs.ExampleBytes.{bytes_spelled, section_spelled, written}
use Rattle.module_build.proofs.example.the_example_is_spelled.Goals as goal

pub returns-clause-spelled : goal.returns-clause-spelled
returns-clause-spelled c = bytes_spelled

pub returns-clause-written : goal.returns-clause-written
returns-clause-written c = written

pub returns-clause-section : goal.returns-clause-section
returns-clause-section c = section_spelled

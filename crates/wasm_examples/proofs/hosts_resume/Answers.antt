use Rattle.wasm_examples.proofs.Stops.{joins, stops_sum, keeps_globals, keeps_current, resumes, resumes_whole}
use Rattle.wasm_examples.proofs.hosts_resume.Goals as goal

pub returns : goal.returns
returns c = record { joins = joins; stops = stops_sum; globals = keeps_globals; current = keeps_current; resumes = resumes; whole = resumes_whole }

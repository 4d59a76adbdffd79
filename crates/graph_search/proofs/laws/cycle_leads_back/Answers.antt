use Rattle.graph_search.proofs.Leads.{cycle_leads}
use Rattle.graph_search.proofs.laws.cycle_leads_back.Goals as goal

pub returns : goal.returns
returns c = cycle_leads

use Rattle.graph_search.proofs.Leads.{never_back}
use Rattle.graph_search.proofs.laws.ranked_never_leads_back.Goals as goal

pub returns : goal.returns
returns c = never_back

use Rattle.cm_front.proofs.FormLemmas.{found, only_names}
use Rattle.cm_front.proofs.form.find.Goals as goal

pub returns-clause-found : goal.returns-clause-found
returns-clause-found c = found c.files_names.result c.args.files.now c.files_names.ensures

pub returns-clause-only : goal.returns-clause-only
returns-clause-only c = λ p a b form. only_names c.files_names.result c.args.files.now p a b c.files_names.ensures form

-- What is found on a walk, and at the sites that it comes to.
use Rattle.std.specs.Prelude.{◌≡◌, refl, ℕ, List, [], ◌∷◌, ◌++◌, slice_index_or, Option, Some, None}
use Rattle.std.proofs.Common.{ap, sym, ◌∙◌}
use Rattle.std.proofs.lemmas.List.{append-nil, append_assoc}
use Rattle.cm_tree.specs.declared.expr.Expr.TheVariants as e
use Rattle.cm_tree.specs.declared.type_expr.Arg.{Arg}
use Rattle.cm_tree.specs.declared.type_expr.Arg.TheVariants as g
use Rattle.cm_tree.specs.declared.decl.UnitDecl.{UnitDecl}
use Rattle.cm_meaning.specs.Scopes.{Around}
use Rattle.cm_meaning.specs.Sites.{Site, GivesNode, Taken, TakesAny, looked_up}
use Rattle.cm_meaning.specs.PatchSites.{takes}
use Rattle.scope_walk.specs.Steps.{Enters, EntersLoop, EntersSpace, EntersText, EntersUnit, Introduces, Leaves, LeavesLoop, LeavesSpace, LeavesText, LeavesUnit, Meets, MeetsCounter, MeetsGiven, MeetsLocal, MeetsParams, MeetsUnit, Stand, Step, round, after_steps, sites_by, step_after, step_sites, whole_sites}
use Rattle.path_names.specs.Found.{found_at, found_by, found_of, step_found}

pub found-append : (q : Stand) (xs ys : List Step) → found_by q (xs ++ ys) ≡ found_by q xs ++ found_by (after_steps q xs) ys
unfolding found_by after_steps
found-append q [] ys = refl
found-append q (s ∷ xs) ys =
    ap (λ z. step_found q s ++ z) (found-append (step_after q s) xs ys) ∙ sym (append_assoc (step_found q s) (found_by (step_after q s) xs) (found_by (after_steps (step_after q s) xs) ys))

at-append : (xs ys : List Site) → found_at (xs ++ ys) ≡ found_at xs ++ found_at ys
unfolding found_at
at-append [] ys = refl
at-append (s ∷ xs) ys = ap (λ z. found_of s.around (looked_up s.part) ++ z) (at-append xs ys) ∙ sym (append_assoc (found_of s.around (looked_up s.part)) (found_at xs) (found_at ys))

given-any : (t : Taken) (a : Arg) → looked_up (GivesNode t a) ≡ looked_up (GivesNode TakesAny a)
given-any t (g.Type b sizes) = refl
given-any t (g.Value (e.Name q)) = refl
given-any t (g.Value (e.Number p v w)) = refl
given-any t (g.Value (e.Truth p v)) = refl
given-any t (g.Value (e.Call' q h args)) = refl
given-any t (g.Value (e.Construct' b h sizes i args)) = refl
given-any t (g.Value (e.Paren' p h x)) = refl
given-any t (g.Value (e.Field' p h x w)) = refl
given-any t (g.Value (e.Index' p h x i y)) = refl
given-any t (g.Value (e.Unary' p o h x)) = refl
given-any t (g.Value (e.Binary' p o h x i y)) = refl
given-any t (g.Value (e.Choice' p h x i y j z)) = refl

whole-found : (r : Around) (u : Option UnitDecl) → found_at (whole_sites r u) ≡ []
unfolding found_at
whole-found r None = refl
whole-found r (Some u) = refl

step-sites : (s : Stand) (a : Step) → found_at (step_sites s a) ≡ step_found s a
unfolding found_at
step-sites s (Meets p) = append-nil (found_of (round s) (looked_up p))
step-sites s (MeetsParams params) = refl
step-sites s MeetsUnit = whole-found (round s) s.home.unit
step-sites s (MeetsLocal k w n) = refl
step-sites s (MeetsCounter w ty) = refl
step-sites s (MeetsGiven q k a) = append-nil (found_of (round s) (looked_up (GivesNode (slice_index_or (takes (round s) q) k TakesAny) a))) ∙ ap (found_of (round s)) (given-any (slice_index_or (takes (round s) q) k TakesAny) a)
step-sites s Enters = refl
step-sites s Leaves = refl
step-sites s (Introduces w n) = refl
step-sites s (EntersUnit n u) = refl
step-sites s LeavesUnit = refl
step-sites s (EntersSpace n) = refl
step-sites s LeavesSpace = refl
step-sites s EntersLoop = refl
step-sites s LeavesLoop = refl
step-sites s (EntersText w n) = refl
step-sites s LeavesText = refl

-- what is found on a walk is what is found at its sites
pub found-sites : (s : Stand) (steps : List Step) → found_at (sites_by s steps) ≡ found_by s steps
unfolding found_at found_by sites_by
found-sites s [] = refl
found-sites s (a ∷ steps) = at-append (step_sites s a) (sites_by (step_after s a) steps) ∙ ap (λ z. z ++ found_at (sites_by (step_after s a) steps)) (step-sites s a) ∙ ap (λ z. step_found s a ++ z) (found-sites (step_after s a) steps)

-- Where a file is refused: from what is spelled being read, which is assumed here, and from the reach of the parsers.
use Rattle.std.proofs.Common.{◌≡◌, ℕ, List, [], ◌∷◌, ◌++◌, Err, refl, ap, subst, sym, ◌∙◌, append-nil}
use Rattle.cm_base.specs.declared.place.Place.{Place}
use Rattle.cm_tree.specs.declared.token.Token.{Token}
use Rattle.cm_tree.specs.declared.decl.Decl.{Decl}
use Rattle.cm_tree.specs.declared.file.File.{File}
use Rattle.cm_tree.specs.Faults.{IsFile, IsFault, place_of}
use Rattle.token_reader.specs.Local.{LocalAt}
use Rattle.token_reader.proofs.Inverses.{answer, ok_value, not_both}
use Rattle.file_grammar.specs.Files.{decls}
use Rattle.file_grammar.proofs.FarDecls.{local_decls}

module _ (n : ℕ) (complete : (ts : List Token) (f : File) → IsFile n ts f → decls n ts ≡ answer f.decls []) where
  fault_at : (ts e : List Token) (last : Place) → LocalAt (decls n) ts (Err e) → IsFault n ts last (place_of last e)
  fault_at ts [] last l = record {
    seen = l.0;
    others = [];
    parts = l.1;
    place_is = refl;
    none = λ f is. not_both f.decls [] [] (sym (complete l.0 f is) ∙ ap (decls n) (sym (append-nil l.0)) ∙ l.2 [] refl);
  }
  fault_at ts (t ∷ e) last l = record {
    seen = l.0;
    others = t ∷ e;
    parts = l.1;
    place_is = refl;
    none = λ more f is. not_both f.decls [] (t ∷ more) (sym (complete (l.0 ++ t ∷ more) f is) ∙ l.2 (t ∷ more) refl);
  }

  -- a refusal is at a place through which no file begins
  pub fault : (ts e : List Token) (last : Place) → decls n ts ≡ Err e → IsFault n ts last (place_of last e)
  fault ts e last is = fault_at ts e last (subst (LocalAt (decls n) ts) is ((local_decls n).at ts))

  -- the tokens spell one file at most
  pub one_file : (ts : List Token) (f g : File) → IsFile n ts f → IsFile n ts g → f.decls ≡ g.decls
  one_file ts f g a b = ok_value f.decls g.decls [] [] (sym (complete ts f a) ∙ complete ts g b)

  -- what is spelled is answered
  pub only : (ts : List Token) (all : List Decl) (r : List Token) (f : File) → decls n ts ≡ answer all r → IsFile n ts f → all ≡ f.decls
  only ts all r f is file = ok_value all f.decls r [] (sym is ∙ complete ts f file)

  -- what is refused isn't spelled
  pub no_file : (ts e : List Token) (f : File) → decls n ts ≡ Err e → IsFile n ts f → ⊥
  no_file ts e f is file = not_both f.decls [] e (sym (complete ts f file) ∙ is)

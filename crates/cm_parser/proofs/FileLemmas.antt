-- What is read from left to right is the file that the tokens spell.
use Rattle.std.proofs.Common.{◌≡◌, ℕ, List, [], sym, ap, subst, ◌∙◌}
use Rattle.std.specs.Prelude.{IfOk, Result, Ok, Err}
use Rattle.cm_base.specs.declared.failure.Fail.{Fail}
use Rattle.cm_base.specs.declared.failure.Fail.TheVariants as fail
use Rattle.cm_base.specs.declared.place.Place.{Place}
use Rattle.cm_tree.specs.declared.token.Token.{Token}
use Rattle.cm_tree.specs.declared.decl.Decl.{Decl}
use Rattle.cm_tree.specs.declared.file.File.{File}
use Rattle.cm_tree.specs.Faults.{IsFile, IsFault, place_of}
use Rattle.cm_base.specs.Answers.{IfRefused, IsOkUnlessMemory}
use Rattle.file_grammar.specs.Files.{decls}
use Rattle.token_reader.specs.Parsers.{Outcome}
use Rattle.cm_parser.specs.Answer.{IsRefusal, IsFileRefusal}

pub file_found : (r : Result File Fail) (ts : List Token) → ((n : ℕ) (ts : List Token) (all : List Decl) (rest : List Token) → decls n ts ≡ Ok (all, rest) → (rest ≡ []) × IsFile n ts (record { decls = all })) →
    IfOk r (λ file. decls 256 ts ≡ Ok (file.decls, [])) → IfOk r (λ file. IsFile 256 ts file)
file_found (Ok file) ts law h = (law 256 ts file.decls [] h).1
file_found (Err e) ts law h = tt

decls_in : Outcome (List Decl) → List Decl
decls_in (Ok found) = found.0
decls_in (Err rest) = []

same_decls : (all others : List Decl) (rest : List Token) → (let o : Outcome (List Decl) = Ok (all, rest) in o) ≡ Ok (others, rest) → all ≡ others
unfolding decls_in
same_decls all others rest e = ap decls_in e

pub file_only : (r : Result File Fail) (ts : List Token) (last : Place) → ((n : ℕ) (ts : List Token) (f : File) → IsFile n ts f → decls n ts ≡ Ok (f.decls, [])) →
    IfOk r (λ file. decls 256 ts ≡ Ok (file.decls, [])) → IfRefused r (IsRefusal (decls 256 ts) last) → (file : File) → IsFile 256 ts file → IsOkUnlessMemory r (λ found. found ≡ file)
file_only (Ok found) ts last law h refused file is = ap (λ (all : List Decl). record { decls = all }) (same_decls found.decls file.decls [] (sym h ∙ law 256 ts file is))
file_only (Err (fail.Refused refused)) ts last law h r file is = absurd (cc (law 256 ts file is, r.refuses))
file_only (Err fail.NoMemory) ts last law h r file is = tt

pub file_refused : (r : Result File Fail) (ts : List Token) (last : Place) → ((n : ℕ) (ts rest : List Token) (last : Place) → decls n ts ≡ Err rest → IsFault n ts last (place_of last rest)) →
    IfRefused r (IsRefusal (decls 256 ts) last) → IfRefused r (IsFileRefusal ts last)
file_refused (Ok file) ts last law h = tt
file_refused (Err (fail.Refused refused)) ts last law h = record { cause = h.cause; cycle = h.cycle; fault = subst (IsFault 256 ts last) (sym h.place_is) (law 256 ts h.others last h.refuses) }
file_refused (Err fail.NoMemory) ts last law h = tt

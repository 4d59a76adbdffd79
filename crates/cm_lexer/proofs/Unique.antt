-- A file has one list of tokens, or a fault.
use Rattle.std.proofs.Common.{◌≡◌, ℕ, zero, suc, ◌+◌, ◌≤◌, ◌<◌, Bool, true, false, List, [], ◌∷◌, ◌++◌, length, take, drop, refl, ap, sym, subst, ◌∙◌, arith, length-append, append_assoc, append-nil}
use Rattle.std.specs.Prelude.{Result, Ok, Err, IfOk}
use Rattle.std.specs.Str.{IsUtf8, IsValidUpTo}
use Rattle.std.proofs.Math.Seq.{take-length}
use Rattle.cm_base.specs.declared.cause.Cause.{Cause}
use Rattle.cm_base.specs.declared.failure.Fail.{Fail}
use Rattle.cm_base.specs.declared.failure.Fail.TheVariants as fail
use Rattle.cm_base.specs.declared.place.Place.{Place}
use Rattle.cm_tree.specs.declared.token.Token.{Token as Lexeme}
use Rattle.cm_tree.specs.declared.tokens.Tokens.{Tokens}
use Rattle.cm_tree.specs.Pieces.{Text, Piece, Gap, Token, Fault, IsLongest}
use Rattle.cm_tree.specs.Tokens.{Part, IsSound, Cuts, tokens_of, IsTokens, IsFirstFault, IsLexFault, faulty, ill_formed}
use Rattle.cm_base.specs.Answers.{IfRefused, IsOkUnlessMemory}
use Rattle.cm_lexer.specs.Answer.{IsLexRefusal, HasNoFault}
use Rattle.cm_lexer.proofs.Longest.{piece_some, same_piece}

empty_front : (piece : Piece) (front rest : Text) → IsLongest piece front rest → [] ≡ front ++ rest → ⊥
empty_front piece front rest longest e = absurd (omega (arith, ap length e, length-append front rest, piece_some piece front longest.is))

cut_same : (ps qs : List Part) (text : Text) → Cuts ps text [] → Cuts qs text [] → ps ≡ qs
unfolding Cuts
cut_same [] [] text first second = refl
cut_same [] (q ∷ qs) text first second = absurd (empty_front q.piece q.bytes second.0 second.3 (sym first ∙ second.1))
cut_same (p ∷ ps) [] text first second = absurd (empty_front p.piece p.bytes first.0 first.3 (sym second ∙ first.1))
cut_same (p ∷ ps) (q ∷ qs) text first second =
    let same = same_piece p.piece q.piece p.bytes q.bytes first.0 second.0 (sym first.1 ∙ second.1) first.3 second.3 in
    let head : p ≡ q = ap (λ (x : Piece). record { piece = x; bytes = p.bytes }) same.piece ∙ ap (λ (t : Text). record { piece = q.piece; bytes = t }) same.front in
    let tail = cut_same ps qs second.0 (subst (λ (t : Text). Cuts ps t []) same.rest first.4) second.4 in
    ap (λ (x : Part). x ∷ ps) head ∙ ap (λ (xs : List Part). q ∷ xs) tail

cut_no_fault : (ps qs : List Part) (text front rest : Text) (cause : Cause) (at : ℕ) → Cuts ps text [] → Cuts qs text (front ++ rest) → IsLongest (Fault cause at) front rest → ⊥
unfolding Cuts
cut_no_fault [] [] text front rest cause at first second fault = empty_front (Fault cause at) front rest fault (sym first ∙ second)
cut_no_fault [] (q ∷ qs) text front rest cause at first second fault = empty_front q.piece q.bytes second.0 second.3 (sym first ∙ second.1)
cut_no_fault (p ∷ ps) [] text front rest cause at first second fault =
    let same = same_piece p.piece (Fault cause at) p.bytes front first.0 rest (sym first.1 ∙ second) first.3 fault in
    subst (λ (x : Piece). IsSound x) same.piece first.2
cut_no_fault (p ∷ ps) (q ∷ qs) text front rest cause at first second fault =
    let same = same_piece p.piece q.piece p.bytes q.bytes first.0 second.0 (sym first.1 ∙ second.1) first.3 second.3 in
    cut_no_fault ps qs second.0 front rest cause at (subst (λ (t : Text). Cuts ps t []) same.rest first.4) second.4 fault

pub one_list : (file : ℕ) (bytes : Text) (t u : Tokens) → IsTokens file bytes t → IsTokens file bytes u → t ≡ u
one_list file bytes t u first second =
    let parts = cut_same first.parts second.parts bytes first.cut second.cut in
    let list : t.list ≡ u.list = first.list ∙ ap (tokens_of file []) parts ∙ sym second.list in
    let last : t.last ≡ u.last = first.last ∙ sym second.last in
    ap (λ (l : List Lexeme). record { list = l; last = t.last }) list ∙ ap (λ (p : Place). record { list = u.list; last = p }) last

ill_formed_no_text : (bytes : Text) (valid : ℕ) → IsUtf8 bytes → IsValidUpTo bytes valid → ⊥
ill_formed_no_text bytes valid utf8 is = is.longest (length bytes) is.short (subst (λ (t : Text). IsUtf8 t) (sym (take-length bytes)) utf8)

no_fault_of : {file : ℕ} → {bytes : Text} → {cause : Cause} → {place : Place} → (t : Tokens) → IsTokens file bytes t → IsLexFault file bytes cause place → ⊥
no_fault_of {file} {bytes} t is (faulty cause before fault) = cut_no_fault is.parts fault.parts bytes fault.front fault.rest cause fault.at is.cut fault.cut fault.fault
no_fault_of {file} {bytes} t is (ill_formed valid invalid) = ill_formed_no_text bytes valid is.utf8 invalid

pub no_fault : (file : ℕ) (bytes : Text) (t : Tokens) → IsTokens file bytes t → (cause : Cause) → (place : Place) → ¬ IsLexFault file bytes cause place
no_fault file bytes t is cause place = no_fault_of t is

pub only_tokens : (file : ℕ) (bytes : Text) (result : Result Tokens Fail) → IfOk result (λ t. IsTokens file bytes t) → IfRefused result (IsLexRefusal file bytes)
    → (tokens : Tokens) → IsTokens file bytes tokens → IsOkUnlessMemory result (λ t. t ≡ tokens)
only_tokens file bytes (Ok t) found refused tokens is = one_list file bytes t tokens found is
only_tokens file bytes (Err (fail.Refused r)) found refused tokens is = no_fault file bytes tokens is r.cause r.place refused.fault
only_tokens file bytes (Err fail.NoMemory) found refused tokens is = tt

pub no_fault_found : (file : ℕ) (bytes : Text) (result : Result Tokens Fail) → IfOk result (λ t. IsTokens file bytes t) → IfOk result (λ _. HasNoFault file bytes)
no_fault_found file bytes (Ok t) found = no_fault file bytes t found
no_fault_found file bytes (Err e) found = tt

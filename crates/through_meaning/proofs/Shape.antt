-- A patch of the form is put together from its names and places.
use Rattle.std.proofs.Common.{◌≡◌, List, [], ◌∷◌, None, ◌∙◌, ap}
use Rattle.std.specs.Prelude.{codes}
use Rattle.cm_base.specs.declared.host.Flow.{Flow}
use Rattle.cm_base.specs.declared.host.Flow.TheVariants.{Input, Output}
use Rattle.cm_base.specs.declared.host.Kind.TheVariants.{Stream}
use Rattle.cm_tree.specs.declared.expr.Expr.TheVariants as e
use Rattle.cm_tree.specs.declared.stmt.Stmt.TheVariants as x
use Rattle.cm_tree.specs.declared.member.Key.{Key}
use Rattle.cm_tree.specs.declared.member.End.{End}
use Rattle.cm_tree.specs.declared.member.Member.{Member}
use Rattle.cm_tree.specs.declared.member.Member.TheVariants as m
use Rattle.cm_tree.specs.declared.decl.UnitDecl.{UnitDecl}
use Rattle.cm_tree.specs.Pieces.{Text}
use Rattle.cm_front.specs.Form.{IsStreamEnd, IsStream, IsMainMark, IsMain, IsThrough}
use Rattle.through_meaning.specs.Parts.{StreamPlaces, MainPlaces, Parts, word, int_at, main_mark, end_at, stream_at, pass_at, main_at, unit_at}

-- ---- endpoints

abbrev pub places_of : {flow : Flow} {name : Text} {member : Member} → IsStream flow name member → StreamPlaces
places_of s = record { member = s.place; end = s.end.place; int = s.stream.is_int.place; name = s.stream.end_name.name.place }

end_name_is : {name : Text} {end : End} (s : IsStreamEnd name end) → s.end_name ≡ record { name = word s.end_name.name.place name; keys = [] }
end_name_is {name} {end} s = ap (λ t. record s.end_name { name = record s.end_name.name { text = t } }) s.named ∙ ap (λ ks. record { name = word s.end_name.name.place name; keys = ks }) s.bare

end_is : {flow : Flow} {name : Text} {member : Member} (s : IsStream flow name member) → s.end ≡ end_at (places_of s) name
end_is {flow} {name} {member} s =
    ap (λ k. record s.end { kind = k }) s.stream.kind
    ∙ ap (λ t. record s.end { kind = Stream; ty = t }) s.stream.is_int.is
    ∙ ap (λ ns. record s.end { kind = Stream; ty = int_at s.stream.is_int.place; names = ns }) (s.stream.is ∙ ap (λ n. n ∷ []) (end_name_is s.stream))

pub stream_is : {flow : Flow} {name : Text} {member : Member} (s : IsStream flow name member) → member ≡ stream_at flow (places_of s) name
stream_is {flow} {name} {member} s = s.is ∙ ap (λ end. m.Ends s.place flow (end ∷ [])) (end_is s)

-- ---- `main`

abbrev pub main_places : {input output : Text} {member : Member} → IsMain input output member → MainPlaces
main_places f = record {
  function = f.function.place;
  name = f.function.name.place;
  body = f.function.body.place;
  loop = f.pass.loop;
  block = f.pass.block;
  to = f.pass.to.place;
  from = f.pass.from.place;
  advance = f.pass.advance;
}

stmts_are : {input output : Text} {member : Member} (f : IsMain input output member) →
    f.function.body.stmts ≡ x.Loop f.pass.loop None (pass_at (main_places f) input output) ∷ []
stmts_are {input} {output} {member} f =
    f.pass.is
    ∙ ap (λ t. x.Loop f.pass.loop None (x.Block f.pass.block (x.Write (word f.pass.to.place t) (e.Name f.pass.from) ∷ x.Advance f.pass.advance ∷ [])) ∷ []) f.pass.written
    ∙ ap (λ ns. x.Loop f.pass.loop None (x.Block f.pass.block (x.Write (word f.pass.to.place output) (e.Name (record { place = f.pass.from.place; names = ns })) ∷ x.Advance f.pass.advance ∷ [])) ∷ []) f.pass.read

function_is : {input output : Text} {member : Member} (f : IsMain input output member) → f.function ≡ main_at (main_places f) input output
function_is f =
    ap (λ r. record f.function { result = r }) f.no_result
    ∙ ap (λ t. record f.function { result = None; name = word f.function.name.place t }) f.name
    ∙ ap (λ ps. record f.function { result = None; name = word f.function.name.place (codes "main"); params = ps }) f.no_params
    ∙ ap (λ b. record f.function { result = None; name = word f.function.name.place (codes "main"); params = []; body = record { place = f.function.body.place; stmts = b } }) (stmts_are f)

main_is : {input output : Text} {member : Member} (f : IsMain input output member) → member ≡ m.Function (main_at (main_places f) input output)
main_is f = f.is ∙ ap (λ g. m.Function g) (function_is f)

-- ---- the processor

abbrev pub parts_of : {name input output : Text} {unit_decl : UnitDecl} → IsThrough name input output unit_decl → Parts
parts_of {name} {input} {output} {unit_decl} t = record {
  place = unit_decl.place;
  name = unit_decl.name;
  key = t.mark.key.name.place;
  input = places_of t.input_end;
  output = places_of t.output_end;
  main = main_places t.main;
}

mark_is : {keys : List Key} (a : IsMainMark keys) → a.key ≡ main_mark a.key.name.place
mark_is a =
    ap (λ t. record a.key { name = record a.key.name { text = t } }) a.name
    ∙ ap (λ v. record { name = word a.key.name.place (codes "main"); value = v }) a.bare

pub unit_is : {name input output : Text} {unit_decl : UnitDecl} (t : IsThrough name input output unit_decl) → unit_decl ≡ unit_at (parts_of t) input output
unit_is {name} {input} {output} {unit_decl} t =
    ap (λ ps. record unit_decl { params = ps }) t.no_params
    ∙ ap (λ ks. record unit_decl { params = []; keys = ks }) (t.mark.is ∙ ap (λ k. k ∷ []) (mark_is t.mark))
    ∙ ap (λ ms. record unit_decl { params = []; keys = main_mark t.mark.key.name.place ∷ []; members = ms }) (t.is
    ∙ ap (λ a. a ∷ t.second ∷ t.third ∷ []) (stream_is t.input_end)
    ∙ ap (λ a. stream_at Input (places_of t.input_end) input ∷ a ∷ t.third ∷ []) (stream_is t.output_end)
    ∙ ap (λ a. stream_at Input (places_of t.input_end) input ∷ stream_at Output (places_of t.output_end) output ∷ a ∷ []) (main_is t.main))

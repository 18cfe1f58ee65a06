-- The equality of actions that the program has by a derive is that of their plain values.
use Rattle.std.proofs.Common.{rules, ◌≡◌, Decides, ℕ, Bool, List, [], ◌∷◌, map, Option, Some, None, Box, Vec, Global}
use Rattle.std.specs.Prelude.{◌&&◌, nat_eq, option_map, string_bytes, String}
use Rattle.std.specs.Option.{option_eq}
use Rattle.std.specs.String.{string_eq}
use Rattle.std.specs.Cmp.{booleans_Decides}
use Rattle.std.specs.Cmp.Lexicographic.{pointwise, bytes_decides}
use Rattle.std.proofs.lemmas.Bool.Decides.{Decides-and, Decides-like, Decides-eqb}
use Rattle.agent_base.specs.declared.refusals.Label.{Label}
use Rattle.agent_base.specs.contracts.refusals.LabelPartialEq as label_eq
use Rattle.origin_site.specs.declared.address.Address.{Address}
use Rattle.origin_site.specs.contracts.address.AddressPartialEq as address_eq
use Rattle.origin_site.specs.Plain.{plain_address}
use Rattle.script_actions.specs.Action as plain
use Rattle.script_actions.specs.Plain.{action_of, head_field_of}
use Rattle.script_actions.specs.declared.words.Method.{Method}
use Rattle.script_actions.specs.contracts.words.MethodPartialEq as method_eq
use Rattle.script_actions.specs.declared.action.HeadField.{HeadField}
use Rattle.script_actions.specs.declared.action.Action.{Action}
use Rattle.script_actions.specs.declared.action.Action.TheVariants as action
use Rattle.script_actions.specs.contracts.action.HeadFieldPartialEq as field_eq
use Rattle.script_actions.specs.contracts.action.ActionPartialEq as eq

-- ---- the tests of the parts of an action

abbrev pub equal_field : HeadField → HeadField → Bool
equal_field a b = (field_eq.TheImpl.eq-value).it a b

abbrev pub equal_address : Address → Address → Bool
equal_address a b = (address_eq.TheImpl.eq-value).it a b

abbrev pub equal_method : Method → Method → Bool
equal_method a b = (method_eq.TheImpl.eq-value).it a b

abbrev pub equal_label : Label → Label → Bool
equal_label a b = (label_eq.TheImpl.eq-value).it a b

abbrev pub equal_action : Action → Action → Bool
equal_action a b = (eq.TheImpl.eq-value).it a b

-- each of them decides equality
pub address_decides : (a b : Address) → Decides (equal_address a b) (plain_address a ≡ plain_address b)
address_decides a b =
    Decides-like _
    (λ e i. record { text = e.0 i; https = e.1.0 i; ip = e.1.1.0 i; host = e.1.1.1.0 i; port = e.1.1.1.1.0 i; path = e.1.1.1.1.1 i })
    (λ e. (λ i. (e i).text, (λ i. (e i).https, (λ i. (e i).ip, (λ i. (e i).host, (λ i. (e i).port, λ i. (e i).path))))))
    (Decides-and _ _ (bytes_decides (string_bytes a.text) (string_bytes b.text))
    (Decides-and _ _ (booleans_Decides a.https b.https)
    (Decides-and _ _ (booleans_Decides a.ip b.ip)
    (Decides-and _ _ (bytes_decides (string_bytes a.host) (string_bytes b.host))
    (Decides-and _ _ (Decides-eqb a.port b.port) (bytes_decides (string_bytes a.path) (string_bytes b.path)))))))

pub field_decides : (a b : HeadField) → Decides (equal_field a b) (head_field_of a ≡ head_field_of b)
field_decides a b =
    Decides-like _ (λ e i. record { name = e.0 i; value = e.1 i }) (λ e. (λ i. (e i).name, λ i. (e i).value))
    (Decides-and _ _ (bytes_decides (string_bytes a.name) (string_bytes b.name)) (bytes_decides (string_bytes a.value) (string_bytes b.value)))

pub method_decides : (a b : Method) → Decides (equal_method a b) (a ≡ b)
method_decides a b = search rules

pub label_decides : (a b : Label) → Decides (equal_label a b) (a ≡ b)
label_decides a b = search rules

pub number_decides : (a b : Option ℕ) → Decides (option_eq nat_eq a b) (a ≡ b)
number_decides a b = search rules

pub text_decides : (a b : Option (Box (String Global) Global)) → Decides (option_eq (λ x y. string_eq x.value y.value) a b) (option_map (λ t. string_bytes t.value) a ≡ option_map (λ t. string_bytes t.value) b)
text_decides None None = search rules
text_decides None (Some b) = search rules
text_decides (Some a) None = search rules
text_decides (Some a) (Some b) =
    Decides-like _ (λ e i. Some (e i)) (λ e. search rules) (bytes_decides (string_bytes a.value) (string_bytes b.value))

-- a test of a head and a tail
pub cons_decides : {A : Type 0} (p q : Bool) (x y : A) (xs ys : List A) → Decides p (x ≡ y) → Decides q (xs ≡ ys)
    → Decides (p && q) ((x ∷ xs) ≡ (y ∷ ys))
cons_decides p q x y xs ys first rest = search rules

-- lists of fields
pub fields_decide : (xs ys : List HeadField) → Decides (pointwise equal_field xs ys) (map head_field_of xs ≡ map head_field_of ys)
fields_decide [] [] = search rules
fields_decide [] (y ∷ ys) = search rules
fields_decide (x ∷ xs) [] = search rules
fields_decide (x ∷ xs) (y ∷ ys) =
    cons_decides (equal_field x y) (pointwise equal_field xs ys) (head_field_of x) (head_field_of y) (map head_field_of xs) (map head_field_of ys) (field_decides x y) (fields_decide xs ys)

same_tick : (s : _) (b : Action)
    → Decides (equal_action (action.Tick s) b) (action_of (action.Tick s) ≡ action_of b)
same_tick s b = search rules

-- ---- actions with an address

open_decides : (tab : ℕ) (url : Box Address Global) (opener : Option ℕ) (noopener : Bool) (method : Method) (head : Vec HeadField Global)
    (tab2 : ℕ) (url2 : Box Address Global) (opener2 : Option ℕ) (noopener2 : Bool) (method2 : Method) (head2 : Vec HeadField Global)
    → Decides (equal_action (action.Open tab url opener noopener method head) (action.Open tab2 url2 opener2 noopener2 method2 head2))
    (action_of (action.Open tab url opener noopener method head) ≡ action_of (action.Open tab2 url2 opener2 noopener2 method2 head2))
open_decides tab url opener noopener method head tab2 url2 opener2 noopener2 method2 head2 =
    Decides-like _ (λ e i. plain.Open (e.0 i) (e.1.0 i) (e.1.1.0 i) (e.1.1.1.0 i) (e.1.1.1.1.0 i) (e.1.1.1.1.1 i))
    (λ e. search rules)
    (Decides-and _ _ (Decides-eqb tab tab2)
    (Decides-and _ _ (address_decides url.value url2.value)
    (Decides-and _ _ (number_decides opener opener2)
    (Decides-and _ _ (booleans_Decides noopener noopener2)
    (Decides-and _ _ (method_decides method method2)
    (fields_decide head.items head2.items))))))

same_open : (tab : ℕ) (url : Box Address Global) (opener : Option ℕ) (noopener : Bool) (method : Method) (head : Vec HeadField Global) (b : Action)
    → Decides (equal_action (action.Open tab url opener noopener method head) b) (action_of (action.Open tab url opener noopener method head) ≡ action_of b)
same_open tab url opener noopener method head (action.Open tab2 url2 opener2 noopener2 method2 head2) =
    open_decides tab url opener noopener method head tab2 url2 opener2 noopener2 method2 head2
same_open tab url opener noopener method head b = search rules

same_close : (tab : _) (b : Action)
    → Decides (equal_action (action.Close tab) b) (action_of (action.Close tab) ≡ action_of b)
same_close tab b = search rules

go_decides : (tab : ℕ) (url : Box Address Global) (by_page : Bool) (method : Method) (head : Vec HeadField Global)
    (tab2 : ℕ) (url2 : Box Address Global) (by_page2 : Bool) (method2 : Method) (head2 : Vec HeadField Global)
    → Decides (equal_action (action.Go tab url by_page method head) (action.Go tab2 url2 by_page2 method2 head2))
    (action_of (action.Go tab url by_page method head) ≡ action_of (action.Go tab2 url2 by_page2 method2 head2))
go_decides tab url by_page method head tab2 url2 by_page2 method2 head2 =
    Decides-like _ (λ e i. plain.Go (e.0 i) (e.1.0 i) (e.1.1.0 i) (e.1.1.1.0 i) (e.1.1.1.1 i))
    (λ e. search rules)
    (Decides-and _ _ (Decides-eqb tab tab2)
    (Decides-and _ _ (address_decides url.value url2.value)
    (Decides-and _ _ (booleans_Decides by_page by_page2)
    (Decides-and _ _ (method_decides method method2)
    (fields_decide head.items head2.items)))))

same_go : (tab : ℕ) (url : Box Address Global) (by_page : Bool) (method : Method) (head : Vec HeadField Global) (b : Action)
    → Decides (equal_action (action.Go tab url by_page method head) b) (action_of (action.Go tab url by_page method head) ≡ action_of b)
same_go tab url by_page method head (action.Go tab2 url2 by_page2 method2 head2) =
    go_decides tab url by_page method head tab2 url2 by_page2 method2 head2
same_go tab url by_page method head b = search rules

frame_decides : (at : Label) (parent : ℕ) (deny : Bool) (url : Box Address Global) (sandbox : Option (Box (String Global) Global)) (head : Vec HeadField Global)
    (at2 : Label) (parent2 : ℕ) (deny2 : Bool) (url2 : Box Address Global) (sandbox2 : Option (Box (String Global) Global)) (head2 : Vec HeadField Global)
    → Decides (equal_action (action.Frame at parent deny url sandbox head) (action.Frame at2 parent2 deny2 url2 sandbox2 head2))
    (action_of (action.Frame at parent deny url sandbox head) ≡ action_of (action.Frame at2 parent2 deny2 url2 sandbox2 head2))
frame_decides at parent deny url sandbox head at2 parent2 deny2 url2 sandbox2 head2 =
    Decides-like _ (λ e i. plain.Act (e.0 i) (plain.Frame (e.1.0 i) (e.1.1.1.0 i) (e.1.1.1.1.0 i) (e.1.1.0 i) (e.1.1.1.1.1 i)))
    (λ e. search rules)
    (Decides-and _ _ (label_decides at at2)
    (Decides-and _ _ (Decides-eqb parent parent2)
    (Decides-and _ _ (booleans_Decides deny deny2)
    (Decides-and _ _ (address_decides url.value url2.value)
    (Decides-and _ _ (text_decides sandbox sandbox2)
    (fields_decide head.items head2.items))))))

same_frame : (at : Label) (parent : ℕ) (deny : Bool) (url : Box Address Global) (sandbox : Option (Box (String Global) Global)) (head : Vec HeadField Global) (b : Action)
    → Decides (equal_action (action.Frame at parent deny url sandbox head) b) (action_of (action.Frame at parent deny url sandbox head) ≡ action_of b)
same_frame at parent deny url sandbox head (action.Frame at2 parent2 deny2 url2 sandbox2 head2) =
    frame_decides at parent deny url sandbox head at2 parent2 deny2 url2 sandbox2 head2
same_frame at parent deny url sandbox head b = search rules

nav_decides : (at : Label) (url : Box Address Global) (by_self : Bool) (method : Method) (head : Vec HeadField Global)
    (at2 : Label) (url2 : Box Address Global) (by_self2 : Bool) (method2 : Method) (head2 : Vec HeadField Global)
    → Decides (equal_action (action.Nav at url by_self method head) (action.Nav at2 url2 by_self2 method2 head2))
    (action_of (action.Nav at url by_self method head) ≡ action_of (action.Nav at2 url2 by_self2 method2 head2))
nav_decides at url by_self method head at2 url2 by_self2 method2 head2 =
    Decides-like _ (λ e i. plain.Act (e.0 i) (plain.Nav (e.1.0 i) (e.1.1.0 i) (e.1.1.1.0 i) (e.1.1.1.1 i)))
    (λ e. search rules)
    (Decides-and _ _ (label_decides at at2)
    (Decides-and _ _ (address_decides url.value url2.value)
    (Decides-and _ _ (booleans_Decides by_self by_self2)
    (Decides-and _ _ (method_decides method method2)
    (fields_decide head.items head2.items)))))

same_nav : (at : Label) (url : Box Address Global) (by_self : Bool) (method : Method) (head : Vec HeadField Global) (b : Action)
    → Decides (equal_action (action.Nav at url by_self method head) b) (action_of (action.Nav at url by_self method head) ≡ action_of b)
same_nav at url by_self method head (action.Nav at2 url2 by_self2 method2 head2) =
    nav_decides at url by_self method head at2 url2 by_self2 method2 head2
same_nav at url by_self method head b = search rules

same_drop : (at : _) (b : Action)
    → Decides (equal_action (action.Drop at) b) (action_of (action.Drop at) ≡ action_of b)
same_drop at b = search rules

same_click : (at : _) (b : Action)
    → Decides (equal_action (action.Click at) b) (action_of (action.Click at) ≡ action_of b)
same_click at b = search rules

fetch_decides : (at : Label) (url : Box Address Global) (method : Method) (head : Vec HeadField Global)
    (at2 : Label) (url2 : Box Address Global) (method2 : Method) (head2 : Vec HeadField Global)
    → Decides (equal_action (action.Fetch at url method head) (action.Fetch at2 url2 method2 head2))
    (action_of (action.Fetch at url method head) ≡ action_of (action.Fetch at2 url2 method2 head2))
fetch_decides at url method head at2 url2 method2 head2 =
    Decides-like _ (λ e i. plain.Act (e.0 i) (plain.Fetch (e.1.0 i) (e.1.1.0 i) (e.1.1.1 i)))
    (λ e. search rules)
    (Decides-and _ _ (label_decides at at2)
    (Decides-and _ _ (address_decides url.value url2.value)
    (Decides-and _ _ (method_decides method method2)
    (fields_decide head.items head2.items))))

same_fetch : (at : Label) (url : Box Address Global) (method : Method) (head : Vec HeadField Global) (b : Action)
    → Decides (equal_action (action.Fetch at url method head) b) (action_of (action.Fetch at url method head) ≡ action_of b)
same_fetch at url method head (action.Fetch at2 url2 method2 head2) =
    fetch_decides at url method head at2 url2 method2 head2
same_fetch at url method head b = search rules

same_set : (at : _) (area : _) (key : _) (value : _) (b : Action)
    → Decides (equal_action (action.Set at area key value) b) (action_of (action.Set at area key value) ≡ action_of b)
same_set at area key value b = search rules

same_get : (at : _) (area : _) (key : _) (b : Action)
    → Decides (equal_action (action.Get at area key) b) (action_of (action.Get at area key) ≡ action_of b)
same_get at area key b = search rules

same_del : (at : _) (area : _) (key : _) (b : Action)
    → Decides (equal_action (action.Del at area key) b) (action_of (action.Del at area key) ≡ action_of b)
same_del at area key b = search rules

same_clear : (at : _) (area : _) (b : Action)
    → Decides (equal_action (action.Clear at area) b) (action_of (action.Clear at area) ≡ action_of b)
same_clear at area b = search rules

same_len : (at : _) (area : _) (b : Action)
    → Decides (equal_action (action.Len at area) b) (action_of (action.Len at area) ≡ action_of b)
same_len at area b = search rules

same_key : (at : _) (area : _) (n : _) (b : Action)
    → Decides (equal_action (action.Key at area n) b) (action_of (action.Key at area n) ≡ action_of b)
same_key at area n b = search rules

same_events : (at : _) (b : Action)
    → Decides (equal_action (action.Events at) b) (action_of (action.Events at) ≡ action_of b)
same_events at b = search rules

same_cookie : (at : _) (b : Action)
    → Decides (equal_action (action.Cookie at) b) (action_of (action.Cookie at) ≡ action_of b)
same_cookie at b = search rules

same_setcookie : (at : _) (text : _) (b : Action)
    → Decides (equal_action (action.SetCookie at text) b) (action_of (action.SetCookie at text) ≡ action_of b)
same_setcookie at text b = search rules

same_has : (at : _) (b : Action)
    → Decides (equal_action (action.Has at) b) (action_of (action.Has at) ≡ action_of b)
same_has at b = search rules

same_request : (at : _) (answer : _) (b : Action)
    → Decides (equal_action (action.Request at answer) b) (action_of (action.Request at answer) ≡ action_of b)
same_request at answer b = search rules

same_persisted : (at : _) (b : Action)
    → Decides (equal_action (action.Persisted at) b) (action_of (action.Persisted at) ≡ action_of b)
same_persisted at b = search rules

same_estimate : (at : _) (b : Action)
    → Decides (equal_action (action.Estimate at) b) (action_of (action.Estimate at) ≡ action_of b)
same_estimate at b = search rules

same_persist : (at : _) (answer : _) (b : Action)
    → Decides (equal_action (action.Persist at answer) b) (action_of (action.Persist at answer) ≡ action_of b)
same_persist at answer b = search rules

same_evict : (site : _) (b : Action)
    → Decides (equal_action (action.Evict site) b) (action_of (action.Evict site) ≡ action_of b)
same_evict site b = search rules

-- the program's equality of actions is that of the plain actions
pub same_action-Decides : (a b : Action) → Decides (equal_action a b) (action_of a ≡ action_of b)
same_action-Decides (action.Tick s) b = same_tick s b
same_action-Decides (action.Open tab url opener noopener method head) b = same_open tab url opener noopener method head b
same_action-Decides (action.Close tab) b = same_close tab b
same_action-Decides (action.Go tab url by_page method head) b = same_go tab url by_page method head b
same_action-Decides (action.Frame at parent deny url sandbox head) b = same_frame at parent deny url sandbox head b
same_action-Decides (action.Nav at url by_self method head) b = same_nav at url by_self method head b
same_action-Decides (action.Drop at) b = same_drop at b
same_action-Decides (action.Click at) b = same_click at b
same_action-Decides (action.Fetch at url method head) b = same_fetch at url method head b
same_action-Decides (action.Set at area key value) b = same_set at area key value b
same_action-Decides (action.Get at area key) b = same_get at area key b
same_action-Decides (action.Del at area key) b = same_del at area key b
same_action-Decides (action.Clear at area) b = same_clear at area b
same_action-Decides (action.Len at area) b = same_len at area b
same_action-Decides (action.Key at area n) b = same_key at area n b
same_action-Decides (action.Events at) b = same_events at b
same_action-Decides (action.Cookie at) b = same_cookie at b
same_action-Decides (action.SetCookie at text) b = same_setcookie at text b
same_action-Decides (action.Has at) b = same_has at b
same_action-Decides (action.Request at answer) b = same_request at answer b
same_action-Decides (action.Persisted at) b = same_persisted at b
same_action-Decides (action.Estimate at) b = same_estimate at b
same_action-Decides (action.Persist at answer) b = same_persist at answer b
same_action-Decides (action.Evict site) b = same_evict site b

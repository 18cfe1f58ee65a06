-- What a request for storage access keeps has a spelling: it is kept in secure contexts alone.
use Rattle.std.proofs.Common.{◌≡◌, pos, ℕ, Bool, true, false, not, List, [], ◌∷◌, drop, Option, Some, None, Ok, refl, sym, ap, subst, arith, ◌∙◌}
use Rattle.std.specs.Prelude.{FitsSigned, ◌||◌}
use Rattle.std.specs.Int.{w64}
use Rattle.std.specs.List.{All, Contains, list_all}
use Rattle.std.proofs.lemmas.Bool.{and_from, and_parts, not-false}
use Rattle.std.proofs.lemmas.Int.{ints}
use Rattle.std.proofs.lemmas.Option.{none-some, same_Some}
use Rattle.std.proofs.lemmas.List.Elements.{All-contains, All-cons, All-head, All-nil, All-weaker}
use Rattle.agent_base.specs.declared.refusals.Label.{Label}
use Rattle.suffix_list.specs.Suffix.{Rule}
use Rattle.origin_site.specs.Site.{PlainSite}
use Rattle.frame_tree.specs.Calls.{is_https_chain}
use Rattle.frame_tree.specs.Document.{PlainDocument}
use Rattle.frame_tree.specs.Tree.{PlainFrame, IsTree, chain_of, document_of, has_frame, top_site}
use Rattle.frame_tree.proofs.LawLemmas.{chain-law}
use Rattle.frame_tree.proofs.TopLemmas.{top-of-chain}
use Rattle.access_grants.specs.declared.facts.Answer.{Answer}
use Rattle.access_grants.specs.declared.facts.Answer.TheVariants.{Grant, Deny, Dismiss}
use Rattle.access_grants.specs.declared.facts.Facts.{Facts}
use Rattle.access_grants.specs.declared.outcome.Outcome.{Outcome}
use Rattle.access_grants.specs.declared.outcome.Refusal.TheVariants as why
use Rattle.access_grants.specs.declared.permission.GrantState.{GrantState}
use Rattle.access_grants.specs.declared.permission.Permission.{Permission}
use Rattle.access_grants.specs.Grant.{permission_at}
use Rattle.access_grants.specs.Request.{denied_now, first_row, granted, granted_now, is_denied, is_granted, prompt_rows, refused, request_rows}
use Rattle.live_state.specs.FramesInPlace.{requested}
use Rattle.live_state.specs.Tabs.{PlainTab}
use Rattle.reply_lines.specs.Reply.{PlainBody, Plain}
use Rattle.row_changes.specs.Change as change
use Rattle.agent_model.specs.Partition.{Holdings}
use Rattle.agent_model.specs.Effects.{SharedCells}
use Rattle.agent_model.specs.StorageAccess.{access_facts, change_requested, decision_word, done_by, embedded_site, keeps_grant, outcome_of, row_of}
use Rattle.spelled_model.specs.Frames.{AreReadFrames, IsReadDocument}
use Rattle.spelled_model.proofs.DoneLemmas.{AreReadShared, IsReadDone, IsReadHeld, answered, frames_done}
use Rattle.spelled_model.proofs.FrameLemmas.{requested_read}
use Rattle.spelled_model.proofs.KeyLemmas.{chain_passes, document_read, site_from, top_named}
use Rattle.spelled_model.proofs.NameLemmas.{site_named}
use Rattle.spelled_model.proofs.SpellsLemmas.{Spells}

-- ---- what is kept

until_fits : (granted : Bool) (now : ℕ) → FitsSigned w64 (permission_at granted (pos now)).until
until_fits granted now = omega (arith, ints)

module _ (outcome : Outcome) (permission : Permission) (keeps : outcome.kept ≡ Some permission) where
  -- a row that keeps nothing is not the first that applies
  skip : (applies : Bool) (row : Outcome) (rows : List (Bool × Outcome)) → row.kept ≡ None → first_row ((applies, row) ∷ rows) ≡ Some outcome → (applies ≡ false) × (first_row rows ≡ Some outcome)
  skip true row rows none e = absurd (none-some permission (sym none ∙ ap (λ (o : Outcome). o.kept) (same_Some row outcome e) ∙ keeps))
  skip false row rows none e = (refl, e)

  -- what is kept of an outcome
  kept_is : (row : Outcome) (own : Permission) → row.kept ≡ Some own → row ≡ outcome → own ≡ permission
  kept_is row own is same = same_Some own permission (sym is ∙ ap (λ (o : Outcome). o.kept) same ∙ keeps)

  prompt_fits : (answer : Answer) (now : ℕ) → first_row (prompt_rows answer (pos now)) ≡ Some outcome → FitsSigned w64 permission.until
  prompt_fits Grant now e = subst (λ (p : Permission). FitsSigned w64 p.until) (kept_is (granted_now (pos now)) (permission_at true (pos now)) refl (same_Some _ outcome e)) (until_fits true now)
  prompt_fits Deny now e = subst (λ (p : Permission). FitsSigned w64 p.until) (kept_is (denied_now (pos now)) (permission_at false (pos now)) refl (same_Some _ outcome e)) (until_fits false now)
  prompt_fits Dismiss now e = absurd (none-some permission (ap (λ (o : Outcome). o.kept) (same_Some _ outcome e) ∙ keeps))

  -- it is kept in a secure context, and its end fits 64 bits
  kept_secure : (facts : Facts) (state : GrantState) (answer : Answer) (now : ℕ) → first_row (request_rows facts state answer (pos now)) ≡ Some outcome
      → (facts.secure ≡ true) × FitsSigned w64 permission.until
  kept_secure facts state answer now e =
      let rows = request_rows facts state answer (pos now) in
      let a = skip facts.opaque (refused why.Opaque) (drop 1 rows) refl e in
      let b = skip (not facts.secure) (refused why.Insecure) (drop 2 rows) refl a.1 in
      let c = skip facts.deny (refused why.Policy) (drop 3 rows) refl b.1 in
      let d = skip (not facts.sandbox_allows) (refused why.Sandbox) (drop 4 rows) refl c.1 in
      let f = skip (facts.first || facts.flag) (granted false) (drop 5 rows) refl d.1 in
      let g = skip (is_granted state) (granted true) (drop 6 rows) refl f.1 in
      let h = skip (is_denied state) (refused why.Denied) (drop 7 rows) refl g.1 in
      let k = skip (not facts.active) (refused why.NoActivation) (drop 8 rows) refl h.1 in
      (not-false facts.secure b.0, prompt_fits answer now k.1)

-- ---- secure contexts

module _ (rules : List Rule) (frames : List PlainFrame) (all : AreReadFrames rules frames) (grown : IsTree frames) (site : PlainSite) (top : top_site frames ≡ Some site) where
  top_https : (chain : List PlainFrame) → AreReadFrames rules chain → top_site chain ≡ Some site → list_all (λ f. f.document.address.https) chain ≡ true → site.https ≡ true
  top_https [] read e secure = absurd (none-some site e)
  top_https (f ∷ below) read e secure =
      let own = site_from rules f.document (All-head (λ g. IsReadDocument rules g.document) f below read) site e in
      ap (λ (s : PlainSite). s.https) (sym own) ∙ (and_parts f.document.address.https _ secure).0

  -- in a secure context the site of the tab is https
  site_https : (n : ℕ) → is_https_chain n frames ≡ true → site.https ≡ true
  site_https n secure =
      let parts = and_parts (has_frame n frames) _ secure in
      let members = (chain-law n frames grown parts.0).members in
      top_https (chain_of n frames)
      (All-weaker (Contains frames) (λ f. IsReadDocument rules f.document) (λ f has. All-contains (λ g. IsReadDocument rules g.document) frames f all has) (chain_of n frames) members)
      (top-of-chain n frames grown parts.0 ∙ top) parts.1

  -- and so is the site of the document
  own_https : (n : ℕ) (document : PlainDocument) → document_of n frames ≡ Some document → is_https_chain n frames ≡ true → document.address.https ≡ true
  own_https n document there secure = chain_passes (λ d. d.address.https) n frames grown document there (and_parts (has_frame n frames) _ secure).1

  grant_spells : (n : ℕ) (document : PlainDocument) → document_of n frames ≡ Some document → (permission : Permission) → is_https_chain n frames ≡ true → FitsSigned w64 permission.until
      → Spells rules (change.Grant (row_of permission site (embedded_site rules document)))
  grant_spells n document there permission secure fits texts =
      let own = site_named rules document.address (document_read rules n frames all document there).address in
      let under = top_named rules frames all site top in
      (((texts.0, under.0), (texts.1, own.0), fits, site_https n secure, own_https n document there secure), and_from _ _ under.1 own.1)

-- ---- a request

module _ (rules : List Rule) (now : ℕ) (site : PlainSite) (at : Label) (tab : PlainTab) (cells : SharedCells) (held : Holdings) (shared : AreReadShared cells) (read : IsReadHeld rules held)
    (all : AreReadFrames rules tab.frames) (grown : IsTree tab.frames) (top : top_site tab.frames ≡ Some site) where
  module _ (document : PlainDocument) (there : document_of at.frame tab.frames ≡ Some document) (answer : Answer) where
    abbrev asker : PlainSite
    asker = embedded_site rules document

    keeps_read : (outcome : Outcome) → outcome_of site asker (access_facts rules now at.frame tab.frames document) answer now held.grants ≡ Some outcome
        → (left : Holdings) → IsReadHeld rules left → (body : PlainBody) → IsReadDone rules (keeps_grant outcome.kept site asker body cells left)
    keeps_read outcome is left left_read body =
        record {
          spells = by outcome.kept refl;
          held = record { tabs = left_read.tabs; areas = left_read.areas; partitioned = left_read.partitioned };
          shared = shared;
        }
      where
        by : (permission : Option Permission) → outcome.kept ≡ permission → All (Spells rules) (change_requested permission site asker)
        by None keeps = All-nil (Spells rules)
        by (Some permission) keeps =
            let secure = kept_secure outcome permission keeps (access_facts rules now at.frame tab.frames document) _ answer now is in
            All-cons (Spells rules) (change.Grant (row_of permission site asker)) [] (grant_spells rules tab.frames all grown site top at.frame document there permission secure.0 secure.1) (All-nil (Spells rules))

    request_done : (outcome : Option Outcome) → outcome_of site asker (access_facts rules now at.frame tab.frames document) answer now held.grants ≡ outcome
        → IsReadDone rules (done_by outcome at tab site asker cells held)
    request_done None is = answered rules cells held (Plain []) shared read
    request_done (Some outcome) is =
        frames_done rules cells held shared read at.tab tab None (λ frames. keeps_grant outcome.kept site asker (Plain (decision_word outcome.decision))) (Ok (requested outcome.sets_flag outcome.consumes at.frame tab.frames))
        (requested_read rules outcome.sets_flag outcome.consumes at.frame tab.frames all)
        (λ frames left frames_read left_read. keeps_read outcome is left left_read (Plain (decision_word outcome.decision)))

    -- the document requests storage access, with this answer
    pub access_read : IsReadDone rules (done_by (outcome_of site asker (access_facts rules now at.frame tab.frames document) answer now held.grants) at tab site asker cells held)
    access_read = request_done (outcome_of site asker (access_facts rules now at.frame tab.frames document) answer now held.grants) refl

-- The domain of a host: what a site has in place of the host.
-- Source: HTML, "Sites"; URL Standard, "Host miscellaneous" (an IP address has no registrable
-- domain). The registrable domain of another host is the Public Suffix List's.
use Rattle.std.specs.Prelude.{◌≡◌, ℕ, ◌⊎◌, Bool, false, List, ◌∷◌, ◌++◌, if◌then◌else◌}
use Rattle.std.specs.Str.{byte}
use Rattle.suffix_list.specs.Suffix.{Rule, domain}

-- the domain of a host under a list of rules: the registrable domain, or the host itself
abbrev pub host_domain : List Rule → Bool → List ℕ → List ℕ
host_domain rules ip host = if ip then host else domain rules host

-- a label suffix of a host: the host itself, or what stands behind one of its dots. An IP address
-- has no labels, so it has itself alone.
abbrev pub IsLabelSuffix : Bool → List ℕ → List ℕ → Type 0
IsLabelSuffix ip host suffix =
    (suffix ≡ host) ⊎ ((ip ≡ false) × ((front : List ℕ) × (host ≡ front ++ byte "." ∷ suffix)))

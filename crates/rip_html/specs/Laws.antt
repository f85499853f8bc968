-- Laws of pages: bytes are one page, or they are refused at one place as one kind, and never both.
use Rattle.std.specs.Prelude.{◌≡◌, ◌⊎◌, ℕ, List}
use Rattle.rip_base.specs.Page.{Contents}
use Rattle.rip_base.specs.declared.page.PageKind.{PageKind}
use Rattle.rip_html.specs.Pages.{PageOf, IsRefusedAt}

-- bytes have a page, or they are refused
abbrev pub HasReading : Type 0
HasReading = (bytes : List ℕ) → ((page : Contents) × PageOf bytes page) ⊎ ((place : ℕ) × (kind : PageKind) × IsRefusedAt bytes place kind)

-- bytes have at most one page
abbrev pub HasOnePage : Type 0
HasOnePage = (bytes : List ℕ) (page other : Contents) → PageOf bytes page → PageOf bytes other → page ≡ other

-- bytes are refused at one place at most, as one kind
abbrev pub HasOneRefusal : Type 0
HasOneRefusal = (bytes : List ℕ) (place other : ℕ) (kind second : PageKind) → IsRefusedAt bytes place kind → IsRefusedAt bytes other second → (place ≡ other) × (kind ≡ second)

-- no bytes have a page and are refused
abbrev pub IsNeverBoth : Type 0
IsNeverBoth = (bytes : List ℕ) (page : Contents) (place : ℕ) (kind : PageKind) → PageOf bytes page → IsRefusedAt bytes place kind → ⊥

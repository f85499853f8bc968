-- Where requests go: `/`, and `/e/` and `/q/` each with one segment.
use Rattle.std.specs.Prelude.{ℕ, ◌==◌, Bool, ◌&&◌, not, nat_lt, nat_eq, bytes_eq, List, length, drop, Option, Some, None, if◌then◌else◌, codes}
use Rattle.std.specs.List.{list_any, starts_with, before_first}
use Rattle.rip_http.specs.declared.request.Method.{Method}
use Rattle.rip_http.specs.declared.request.Method.TheVariants.{Get, Post}
use Rattle.rip_http.specs.declared.request.Route.{Route}
use Rattle.rip_http.specs.declared.request.Route.TheVariants.{Page, Events, Quit}

-- RFC 9112 3.2.1: a target up to its query
abbrev pub path_of : List ℕ → List ℕ
path_of target = before_first (λ b. b == 63) target

-- what stands behind `/e/` or `/q/`
abbrev pub segment_of : List ℕ → List ℕ
segment_of target = drop 3 (path_of target)

-- the prefix, and behind it one segment that is not empty
abbrev pub is_below : List ℕ → List ℕ → Bool
is_below prefix path =
    nat_lt 3 (length path)
    && (starts_with nat_eq path prefix && not (list_any (λ b. b == 47) (drop 3 path)))

-- the route of a path
abbrev pub route_of : List ℕ → Option Route
route_of path =
    if bytes_eq path (codes "/") then Some Page
    else if is_below (codes "/e/") path then Some Events
    else if is_below (codes "/q/") path then Some Quit
    else None

-- the method that a route takes
abbrev pub method_of : Route → Method
method_of Page = Get
method_of Events = Post
method_of Quit = Post

-- RFC 9110 9.1: a method's name, in capitals
abbrev pub method_name : Method → List ℕ
method_name Get = codes "GET"
method_name Post = codes "POST"

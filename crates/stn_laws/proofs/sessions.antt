mod OneSession
mod OneReception
mod SomeSession
mod SomeReception
